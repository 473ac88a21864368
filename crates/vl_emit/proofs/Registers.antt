-- What a register takes at an edge, and what the tests on a counter tell.
use Rattle.std.proofs.Common.{◌≡◌, ℕ, zero, suc, ◌*◌, ◌%◌, ◌^◌, ◌<◌, ◌==◌, nat_lt, max, Bool, true, false, not, ◌&&◌, ◌||◌, if◌then◌else◌, List, ℤ, pos, int_lt, Option, codes, ap, sym, ◌∙◌, subst, refl}
use Rattle.std.proofs.Common.{arith}
use Rattle.std.proofs.lemmas.Bool.{and_right}
use Rattle.std.proofs.Math.Nat.{mod-eq_of_lt}
use Rattle.math_num.specs.Word.{IsCongruent}
use Rattle.math_num.proofs.Arithmetic.{IsCongruent-trans}
use Rattle.vl_ast.specs.declared.expressions.BinOp.TheVariants as binary
use Rattle.vl_ast.specs.declared.expressions.Sized.{Sized}
use Rattle.vl_ast.specs.declared.expressions.Expr.{Expr}
use Rattle.vl_ast.specs.declared.expressions.Expr.TheVariants as expression
use Rattle.vl_ast.specs.declared.modules.Module.{Module}
use Rattle.vl_ast.specs.Context.{Net, own_length, is_signed}
use Rattle.vl_ast.specs.Value.{extended, is_negative, number_of, truth, assigned, assigned_number, is_true}
use Rattle.vl_ast.specs.Nets.{nets_of}
use Rattle.vl_ast.specs.Value.{bits_of}
use Rattle.vl_ast.specs.Runs.{next_bits, takes_value}
use Rattle.vl_emit.specs.Names.{Wire}
use Rattle.vl_emit.specs.inner.AtWidth.{IsWritten, Shows}
use Rattle.vl_emit.specs.inner.NetItems.{plain_number, counts}
use Rattle.vl_ast.proofs.Forms.{length-Name, value-Name, length-Binary, length-Literal, sign-Literal, value-Binary, value-Literal, by_itself}
use Rattle.vl_emit.proofs.AtWidth.{extended-same, as-name, alone-written, assigned-written}
use Rattle.vl_emit.proofs.Operations.{truth-bit, equal-written, together-written}
use Rattle.vl_emit.proofs.Twos.{bits-congruent, bits-unique, bits-mod}

-- congruent numbers have the same bits
pub same-congruent : (w : ℕ) (a b : ℤ) → IsCongruent a b (2 ^ w) → bits_of w a ≡ bits_of w b
same-congruent w a b h = sym (bits-mod w a) ∙ bits-unique w (bits_of w a) b (IsCongruent-trans (2 ^ w) (bits-congruent w a) h)

pub one-bit : (t : Bool) → not (bits_of 1 (pos (truth t)) == 0) ≡ t
one-bit true = refl
one-bit false = refl

pub no-bit : (t : Bool) → (bits_of 1 (pos (truth t)) == 0) ≡ not t
no-bit true = refl
no-bit false = refl

pub both-some : (a b : ℕ) → 0 < a * b → (0 < a) × (0 < b)
both-some zero b h = absurd (omega arith)
both-some (suc a) zero h = absurd (omega arith)
both-some (suc a) (suc b) h = (omega arith, omega arith)

module _ (nets : List ℕ → Net) (row : List ℕ → ℕ) where
  abbrev Written : ℕ → ℤ → Expr → Type 0
  Written = IsWritten nets row

  -- a name that is declared with a width, and has the bits of a number
  pub name-written : (name : List ℕ) (w : ℕ) (signed : Bool) (z : ℤ) → nets name ≡ record { width = w; signed = signed } → row name ≡ bits_of w z → Written w z (expression.Name name)
  name-written name w signed z declared bits = record {
    length = length-Name nets name ∙ ap (λ (n : Net). n.width) declared;
    value = λ s. value-Name nets row w s name
        ∙ ap (λ (n : Net). extended (record { width = n.width; signed = s; bits = row name }) w) declared
        ∙ extended-same (is_negative (record { width = w; signed = s; bits = row name })) (row name) w
        ∙ bits;
  }

  -- a condition is true where its bit is 1
  pub condition-told : (t : Bool) (e : Expr) → Written 1 (pos (truth t)) e → is_true nets row e ≡ t
  condition-told t e p = ap (λ (b : ℕ). not (b == 0)) (alone-written nets row 1 (pos (truth t)) e p) ∙ one-bit t

  pub number-written : (w n : ℕ) → n < 2 ^ w → Written w (pos n) (expression.Literal (plain_number w n))
  number-written w n h = record {
    length = length-Literal nets (plain_number w n);
    value = λ signed. value-Literal nets row w signed (plain_number w n)
        ∙ extended-same (is_negative (record { width = w; signed = signed; bits = n })) n w ∙ sym (mod-eq_of_lt h);
  }

  module _ (counter : Wire) (q : ℕ) (s : Shows nets row counter (pos q)) (fits : q < 2 ^ counter.width) where
    pub counts-written : (n : ℕ) → n < 2 ^ counter.width → Written 1 (pos (truth (q == n))) (counts counter n)
    counts-written n h =
        let v : ℕ = counter.width in
        let name : Expr = expression.Name counter.name in
        let p = equal-written nets row v (pos q) (pos n) name (expression.Literal (plain_number v n)) (as-name nets row counter (pos q) s) (number-written v n h) in
        subst (λ (t : Bool). Written 1 (pos (truth t)) (counts counter n))
        (λ i. mod-eq_of_lt fits i == mod-eq_of_lt h i) p

    -- the literal is without sign, and so the comparison is
    pub at_least-written : (n : ℕ) → n < 2 ^ counter.width
        → Written 1 (pos (truth (not (nat_lt q n)))) (expression.Binary binary.GreaterEqual (expression.Name counter.name) (expression.Literal (plain_number counter.width n)))
    at_least-written n h =
        let v : ℕ = counter.width in
        let x : Expr = expression.Name counter.name in
        let y : Expr = expression.Literal (plain_number v n) in
        let p = as-name nets row counter (pos q) s in
        let r = number-written v n h in
        let lw : max (own_length nets x) (own_length nets y) ≡ v = omega (arith, p.length, r.length) in
        let yw : max (own_length nets y) (own_length nets x) ≡ v = omega (arith, p.length, r.length) in
        let plain : is_signed nets y ≡ false = sign-Literal nets (plain_number v n) in
        let sx : (is_signed nets x && is_signed nets y) ≡ false = and_right (is_signed nets x) (is_signed nets y) plain in
        let sy : (is_signed nets y && is_signed nets x) ≡ false = ap (λ (b : Bool). b && is_signed nets x) plain in
        let a = together-written nets row v (pos q) x y (is_signed nets x && is_signed nets y) p r.length ∙ mod-eq_of_lt fits in
        let b = together-written nets row v (pos n) y x (is_signed nets y && is_signed nets x) r p.length ∙ mod-eq_of_lt h in
        record {
          length = length-Binary nets binary.GreaterEqual x y;
          value = λ signed. value-Binary nets row 1 signed binary.GreaterEqual x y
              ∙ (λ i. truth (not (int_lt (number_of (record { width = lw i; signed = sx i; bits = a i })) (number_of (record { width = yw i; signed = sy i; bits = b i })))))
              ∙ truth-bit (not (nat_lt q n));
        }

  -- two conditions, the second a net
  pub both-written : (t u : Bool) (x y : Expr) → Written 1 (pos (truth t)) x → ((by_itself nets row y).bits == 0) ≡ u
      → Written 1 (pos (truth (t && not u))) (expression.Binary binary.Both x y)
  both-written t u x y p e =
      let a = alone-written nets row 1 (pos (truth t)) x p in
      record {
        length = length-Binary nets binary.Both x y;
        value = λ signed. value-Binary nets row 1 signed binary.Both x y
            ∙ (λ i. truth (not (a i == 0) && not (e i))) ∙ (λ i. truth (one-bit t i && not u)) ∙ truth-bit (t && not u);
      }

  pub either-written : (t u : Bool) (x y : Expr) → Written 1 (pos (truth t)) x → ((by_itself nets row y).bits == 0) ≡ u
      → Written 1 (pos (truth (t || not u))) (expression.Binary binary.Either x y)
  either-written t u x y p e =
      let a = alone-written nets row 1 (pos (truth t)) x p in
      record {
        length = length-Binary nets binary.Either x y;
        value = λ signed. value-Binary nets row 1 signed binary.Either x y
            ∙ (λ i. truth (not (a i == 0) || not (e i))) ∙ (λ i. truth (one-bit t i || not u)) ∙ truth-bit (t || not u);
      }

module _ (m : Module) (row : List ℕ → ℕ) (name : List ℕ) (w : ℕ) (signed : Bool) (declared : nets_of m name ≡ record { width = w; signed = signed }) where
  pub reset-bits : (bits : ℕ) (condition : Option Expr) (value : Expr) → bits < 2 ^ w → row (codes "reset") ≡ 1
      → next_bits m row name (plain_number w bits) condition value ≡ bits
  reset-bits bits condition value h e =
      (λ i. if e i == 1 then assigned_number (nets_of m name).width (plain_number w bits)
      else (if takes_value m row condition then assigned (nets_of m) row (nets_of m name).width value else row name))
      ∙ ap (λ (n : Net). assigned_number n.width (plain_number w bits)) declared
      ∙ (let long : max w w ≡ w = omega arith in ap (λ (k : ℕ). extended (record { width = w; signed = false; bits = bits }) k % 2 ^ w) long)
      ∙ mod-eq_of_lt h

  pub next-value : (first : Sized) (condition : Option Expr) (value : Expr) (t : Bool) (z : ℤ) → row (codes "reset") ≡ 0 → takes_value m row condition ≡ t
      → IsWritten (nets_of m) row w z value → next_bits m row name first condition value ≡ (if t then bits_of w z else row name)
  next-value first condition value t z e f p =
      (λ i. if e i == 1 then assigned_number (nets_of m name).width first
      else (if f i then assigned (nets_of m) row (declared i).width value else row name))
      ∙ ap (λ (b : ℕ). if t then b else row name) (assigned-written (nets_of m) row w z value p)
