-- A name that is assigned another of its width takes its bits, without a multiplication.
use Rattle.std.proofs.Common.{◌≡◌, ◌<◌, ◌^◌, ◌%◌, ℕ, max, Bool, true, false, List, [], ◌∷◌, refl, sym, ap, ◌∙◌, arith}
use Rattle.std.proofs.Math.Nat.{mod-eq_of_lt}
use Rattle.vl_ast.specs.declared.expressions.Expr.TheOpen.{Expr-F}
use Rattle.vl_ast.specs.declared.expressions.Expr.TheVariants.{Name, rolls-Name}
use Rattle.vl_ast.specs.declared.expressions.Expr.TheFolds.{fold-roll-Expr, para-roll-Expr}
use Rattle.vl_ast.specs.Context.{Net, is_signed}
use Rattle.vl_ast.specs.Multiplications.{Multiplication, multiplications_in, multiplications_step}
use Rattle.vl_ast.specs.Nets.{names_read, names_step}
use Rattle.vl_ast.specs.Value.{assigned, extended, value_in}
use Rattle.vl_ast.proofs.Forms.{length-Name, value-Name}

pub reads-Name : (name : List ℕ) → names_read (Name name) ≡ name ∷ []
reads-Name name = ap names_read (sym (rolls-Name name)) ∙ fold-roll-Expr (List (List ℕ)) names_step (Expr-F.Name name)

pub extended-same : (w : ℕ) (s : Bool) (b : ℕ) → extended (record { width = w; signed = s; bits = b }) w ≡ b
extended-same w true b = grind arith
extended-same w false b = refl

pub one-width : (w : ℕ) → max w w ≡ w
one-width w = omega arith

pub name-copied : (nets : List ℕ → Net) (row : List ℕ → ℕ) (w : ℕ) (name : List ℕ) → (nets name).width ≡ w → row name < 2 ^ w
    → assigned nets row w (Name name) ≡ row name
name-copied nets row w name is fits =
    let signed = is_signed nets (Name name) in
    ap (λ n. value_in nets row (max w n) signed (Name name) % 2 ^ w) (length-Name nets name ∙ is)
    ∙ ap (λ n. value_in nets row n signed (Name name) % 2 ^ w) (one-width w)
    ∙ ap (λ n. n % 2 ^ w) (value-Name nets row w signed name ∙ ap (λ n. extended (record { width = n; signed = signed; bits = row name }) w) is ∙ extended-same w signed (row name))
    ∙ mod-eq_of_lt fits

pub name-multiplies-none : (nets : List ℕ → Net) (width : ℕ) (signed : Bool) (name : List ℕ) → multiplications_in nets width signed (Name name) ≡ []
name-multiplies-none nets width signed name =
    ap (multiplications_in nets width signed) (sym (rolls-Name name))
    ∙ ap (λ (f : ℕ → Bool → List Multiplication). f width signed) (para-roll-Expr (ℕ → Bool → List Multiplication) (multiplications_step nets) (Expr-F.Name name))
