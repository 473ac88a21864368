-- The names of the module of one delay are different, and what a name is as an expression.
use Rattle.std.proofs.Common.{◌≡◌, List, ℕ, Bool, true, false, codes, bytes_eq, ap, sym, ◌∙◌}
use Rattle.vl_ast.specs.declared.expressions.Expr.TheOpen.{Expr-F}
use Rattle.vl_ast.specs.declared.expressions.Expr.TheFolds.{fold-roll-Expr, para-roll-Expr}
use Rattle.vl_ast.specs.declared.expressions.Expr.TheVariants.{Name, rolls-Name}
use Rattle.vl_ast.specs.Context.{Net, own_length, length_step, is_signed, sign_step}
use Rattle.vl_ast.specs.Value.{Bits, value_in, meaning_step, extended}
use Rattle.vl_ast.specs.Conditions.{is_sound_step}
use Rattle.vl_ast.specs.declared.expressions.Expr.TheFolds.{para-Expr}

-- the name of the register, `fx_delay`
abbrev pub register : List ℕ
register = codes "fx_delay"

-- two names are different, whichever is asked first
abbrev pub AreApart : List ℕ → List ℕ → Type 0
AreApart one other = (bytes_eq one other ≡ false) × (bytes_eq other one ≡ false)

pub record AreDifferent (u y : List ℕ) : Type 0 where
  pub clk-u : AreApart (codes "clk") u
  pub reset-u : AreApart (codes "reset") u
  pub register-u : AreApart register u
  pub clk-y : AreApart (codes "clk") y
  pub reset-y : AreApart (codes "reset") y
  pub register-y : AreApart register y
  pub u-y : AreApart u y
  pub u-u : bytes_eq u u ≡ true
  pub y-y : bytes_eq y y ≡ true

pub own_length-name : (nets : List ℕ → Net) (x : List ℕ) → own_length nets (Name x) ≡ (nets x).width
own_length-name nets x = ap (own_length nets) (sym (rolls-Name x)) ∙ fold-roll-Expr ℕ (length_step nets) (Expr-F.Name x)

pub is_signed-name : (nets : List ℕ → Net) (x : List ℕ) → is_signed nets (Name x) ≡ (nets x).signed
is_signed-name nets x = ap (is_signed nets) (sym (rolls-Name x)) ∙ fold-roll-Expr Bool (sign_step nets) (Expr-F.Name x)

pub sound-name : (nets : List ℕ → Net) (x : List ℕ) → para-Expr Bool (is_sound_step nets) (Name x) ≡ true
sound-name nets x = ap (para-Expr Bool (is_sound_step nets)) (sym (rolls-Name x)) ∙ para-roll-Expr Bool (is_sound_step nets) (Expr-F.Name x)

pub value_in-name : (nets : List ℕ → Net) (row : List ℕ → ℕ) (width : ℕ) (signed : Bool) (x : List ℕ)
    → value_in nets row width signed (Name x) ≡ extended (record { width = (nets x).width; signed = signed; bits = row x }) width
value_in-name nets row width signed x =
    ap (value_in nets row width signed) (sym (rolls-Name x))
    ∙ ap (λ (f : ℕ → Bool → Bits). (f width signed).bits) (para-roll-Expr (ℕ → Bool → Bits) (meaning_step nets row) (Expr-F.Name x))
