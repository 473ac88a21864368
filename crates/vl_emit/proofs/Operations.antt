-- Operators over operands that are written at a width.
use Rattle.std.proofs.Common.{◌≡◌, ℕ, ◌+◌, ◌-◌, ◌*◌, ◌%◌, ◌^◌, ◌<◌, ◌≤◌, ◌==◌, nat_le, max, Bool, true, false, not, ◌&&◌, if◌then◌else◌, List, ℤ, pos, negsuc, neg_ℤ, ◌+ℤ◌, ◌-ℤ◌, ◌*ℤ◌, int_lt, ap, sym}
use Rattle.std.proofs.Common.{◌∙◌, refl, arith}
use Rattle.std.proofs.lemmas.Int.{ints}
use Rattle.std.proofs.lemmas.Bool.{eqb-true, eqb-false, lt-leb, le-leb}
use Rattle.std.proofs.lemmas.Bool.Decides.{Decides-int_eq}
use Rattle.std.specs.Ordering.{int_eq}
use Rattle.std.proofs.Math.Nat.{mod-eq_of_lt}
use Rattle.math_num.specs.Word.{IsCongruent}
use Rattle.math_num.proofs.Arithmetic.{double, IsCongruent-times, IsCongruent-trans}
use Rattle.vl_ast.specs.declared.expressions.UnOp.TheVariants.{Negate}
use Rattle.vl_ast.specs.declared.expressions.BinOp.TheVariants.{Add, Subtract, Equal, NotEqual, Less}
use Rattle.vl_ast.specs.declared.expressions.ShiftOp.TheVariants.{Left}
use Rattle.vl_ast.specs.declared.expressions.Sized.{Sized}
use Rattle.vl_ast.specs.declared.expressions.Expr.{Expr}
use Rattle.vl_ast.specs.declared.expressions.Expr.TheVariants.{Literal, AsSigned, Unary, Binary, Shift, Choose}
use Rattle.vl_ast.specs.Context.{Net, own_length, is_signed}
use Rattle.vl_ast.specs.Value.{extended, is_negative, number_of, truth, value_in}
use Rattle.vl_ast.specs.Value.{bits_of}
use Rattle.vl_emit.specs.inner.AtWidth.{IsWritten}
use Rattle.vl_ast.proofs.Forms.{length-Unary, length-Binary, length-Shift, length-Choose, length-AsSigned, length-Literal, sign-AsSigned, value-Unary, value-Binary, value-Shift, value-Choose}
use Rattle.vl_ast.proofs.Forms.{value-AsSigned, value-Literal, by_itself}
use Rattle.vl_emit.proofs.AtWidth.{alone-written, extended-same}
use Rattle.math_num.proofs.Residues.{congruent-neg}
use Rattle.vl_ast.proofs.SomeInputs.{bits-fit}
use Rattle.vl_emit.proofs.Twos.{bits-congruent, bits-unique, IsCongruent-add, IsCongruent-mul}
use Rattle.math_num.proofs.Words.{size_of}

add-bits : (w : ℕ) (a b : ℤ) → (bits_of w a + bits_of w b) % 2 ^ w ≡ bits_of w (a +ℤ b)
add-bits w a b = bits-unique w (bits_of w a + bits_of w b) (a +ℤ b) (IsCongruent-add (2 ^ w) (bits-congruent w a) (bits-congruent w b))

-- 2 to the width less the bits of a number
opposite-congruent : (w : ℕ) (a : ℤ) → IsCongruent (pos (2 ^ w - bits_of w a)) (neg_ℤ a) (2 ^ w)
opposite-congruent w a = IsCongruent-trans (2 ^ w)
    (record { turns = pos 1; equal = omega (arith, ints, bits-fit w a) })
    (congruent-neg (2 ^ w) (bits-congruent w a))

subtract-bits : (w : ℕ) (a b : ℤ) → (bits_of w a + (2 ^ w - bits_of w b)) % 2 ^ w ≡ bits_of w (a -ℤ b)
subtract-bits w a b = bits-unique w (bits_of w a + (2 ^ w - bits_of w b)) (a -ℤ b) (IsCongruent-add (2 ^ w) (bits-congruent w a) (opposite-congruent w b))

negate-bits : (w : ℕ) (a : ℤ) → (2 ^ w - bits_of w a) % 2 ^ w ≡ bits_of w (neg_ℤ a)
negate-bits w a = bits-unique w (2 ^ w - bits_of w a) (neg_ℤ a) (opposite-congruent w a)

pub multiply-bits : (w : ℕ) (a b : ℤ) → bits_of w a * bits_of w b % 2 ^ w ≡ bits_of w (a *ℤ b)
multiply-bits w a b = bits-unique w (bits_of w a * bits_of w b) (a *ℤ b) (IsCongruent-mul (2 ^ w) (bits-congruent w a) (bits-congruent w b))

pub shift-bits : (w k : ℕ) (a : ℤ) → bits_of w a * 2 ^ k % 2 ^ w ≡ bits_of w (a *ℤ pos (2 ^ k))
shift-bits w k a = bits-unique w (bits_of w a * 2 ^ k) (a *ℤ pos (2 ^ k)) (IsCongruent-times (2 ^ w) (2 ^ k) (bits-congruent w a))

pub truth-bit : (t : Bool) → truth t ≡ bits_of 1 (pos (truth t))
truth-bit true = refl
truth-bit false = refl

pub choice-bits : (t : Bool) (w : ℕ) (a b : ℤ) → (if t then bits_of w b else bits_of w a) ≡ bits_of w (if t then b else a)
choice-bits true w a b = refl
choice-bits false w a b = refl

-- the number that signed bits stand for
pub number-back : (c : ℕ) (z : ℤ) → 1 ≤ c → size_of z < 2 ^ (c - 1) → number_of (record { width = c; signed = true; bits = bits_of c z }) ≡ z
number-back c (pos n) h half =
    let whole : n < 2 ^ c = omega (arith, double c h) in
    let small : nat_le (2 ^ (c - 1)) n ≡ false = lt-leb (2 ^ (c - 1)) n half in
    rw (mod-eq_of_lt whole, small) refl
number-back c (negsuc n) h half =
    let whole : n < 2 ^ c = omega (arith, double c h) in
    let large : nat_le (2 ^ (c - 1)) (2 ^ c - 1 - n) ≡ true = le-leb (2 ^ (c - 1)) (2 ^ c - 1 - n) (omega (arith, double c h)) in
    rw (mod-eq_of_lt whole, large) (omega (arith, ints))

-- two numbers that their bits give have the same bits only where they are the same
pub same-bits : (c : ℕ) (signed : Bool) (a b : ℤ)
    → number_of (record { width = c; signed = signed; bits = bits_of c a }) ≡ a
    → number_of (record { width = c; signed = signed; bits = bits_of c b }) ≡ b
    → (bits_of c a == bits_of c b) ≡ int_eq a b
same-bits c signed a b f g = by (bits_of c a == bits_of c b) (int_eq a b) refl refl where
  by : (x y : Bool) → (bits_of c a == bits_of c b) ≡ x → int_eq a b ≡ y → x ≡ y
  by true true e k = refl
  by false false e k = refl
  by false true e k = absurd (eqb-false (bits_of c a) (bits_of c b) e (ap (bits_of c) ((Decides-int_eq a b).0 k)))
  by true false e k =
      let bits : bits_of c a ≡ bits_of c b = eqb-true (bits_of c a) (bits_of c b) e in
      let same : a ≡ b = sym f ∙ ap (λ (n : ℕ). number_of (record { width = c; signed = signed; bits = n })) bits ∙ g in
      let yes : int_eq a b ≡ true = (Decides-int_eq a b).1 same in
      sym yes ∙ k

module _ (nets : List ℕ → Net) (row : List ℕ → ℕ) where
  abbrev Written : ℕ → ℤ → Expr → Type 0
  Written = IsWritten nets row

  module _ (w : ℕ) (a b : ℤ) (x y : Expr) (p : Written w a x) (q : Written w b y) where
    longest : max (own_length nets x) (own_length nets y) ≡ w
    longest = omega (arith, p.length, q.length)

    pub add-written : Written w (a +ℤ b) (Binary Add x y)
    add-written = record {
      length = length-Binary nets Add x y ∙ longest;
      value = λ signed. value-Binary nets row w signed Add x y ∙ (λ i. (p.value signed i + q.value signed i) % 2 ^ w) ∙ add-bits w a b;
    }

    pub subtract-written : Written w (a -ℤ b) (Binary Subtract x y)
    subtract-written = record {
      length = length-Binary nets Subtract x y ∙ longest;
      value = λ signed. value-Binary nets row w signed Subtract x y ∙ (λ i. (p.value signed i + (2 ^ w - q.value signed i)) % 2 ^ w) ∙ subtract-bits w a b;
    }

  pub negate-written : (w : ℕ) (a : ℤ) (x : Expr) → Written w a x → Written w (neg_ℤ a) (Unary Negate x)
  negate-written w a x p = record {
    length = length-Unary nets Negate x ∙ p.length;
    value = λ signed. value-Unary nets row w signed Negate x ∙ (λ i. (2 ^ w - p.value signed i) % 2 ^ w) ∙ negate-bits w a;
  }

  pub shift-written : (w : ℕ) (a : ℤ) (x : Expr) (amount : Sized) → Written w a x → Written w (a *ℤ pos (2 ^ amount.bits)) (Shift Left x amount)
  shift-written w a x amount p = record {
    length = length-Shift nets Left x amount ∙ p.length;
    value = λ signed. value-Shift nets row w signed Left x amount ∙ (λ i. p.value signed i * 2 ^ amount.bits % 2 ^ w) ∙ shift-bits w amount.bits a;
  }

  pub literal-written : (w : ℕ) (a : ℤ) → Written w a (Literal (record { width = w; signed = false; bits = bits_of w a }))
  literal-written w a =
      let number : Sized = record { width = w; signed = false; bits = bits_of w a } in
      record {
        length = length-Literal nets number;
        value = λ signed. value-Literal nets row w signed number
            ∙ extended-same (is_negative (record { width = w; signed = signed; bits = bits_of w a })) (bits_of w a) w;
      }

  -- a sign that is put on what is written at a width
  pub as_signed-written : (w : ℕ) (a : ℤ) (x : Expr) → Written w a x → Written w a (AsSigned x)
  as_signed-written w a x p = record {
    length = length-AsSigned nets x ∙ p.length;
    value = λ signed. value-AsSigned nets row w signed x
        ∙ (λ i. extended (record { width = p.length i; signed = signed; bits = alone-written nets row w a x p i }) w)
        ∙ extended-same (is_negative (record { width = w; signed = signed; bits = bits_of w a })) (bits_of w a) w;
  }

  -- a choice by a test that stands alone
  pub choose-written : (w : ℕ) (a b : ℤ) (t : Bool) (test x y : Expr) → ((by_itself nets row test).bits == 0) ≡ t → Written w a x → Written w b y
      → Written w (if t then b else a) (Choose test x y)
  choose-written w a b t test x y e p q = record {
    length = length-Choose nets test x y ∙ omega (arith, p.length, q.length);
    value = λ signed. value-Choose nets row w signed test x y
        ∙ (λ i. if e i then q.value signed i else p.value signed i)
        ∙ choice-bits t w a b;
  }

  -- an operand of a comparison, in the length and the sign that it has with the other
  pub together-written : (c : ℕ) (a : ℤ) (x y : Expr) (signed : Bool) → Written c a x → own_length nets y ≡ c
      → value_in nets row (max (own_length nets x) (own_length nets y)) signed x ≡ bits_of c a
  together-written c a x y signed p long =
      let e : max (own_length nets x) (own_length nets y) ≡ c = omega (arith, p.length, long) in
      ap (λ (n : ℕ). value_in nets row n signed x) e ∙ p.value signed

  module _ (c : ℕ) (a b : ℤ) (x y : Expr) (p : Written c a x) (q : Written c b y) where
    pub equal-written : Written 1 (pos (truth (bits_of c a == bits_of c b))) (Binary Equal x y)
    equal-written =
        let l = together-written c a x y (is_signed nets x && is_signed nets y) p q.length in
        let r = together-written c b y x (is_signed nets y && is_signed nets x) q p.length in
        record {
          length = length-Binary nets Equal x y;
          value = λ signed. value-Binary nets row 1 signed Equal x y ∙ (λ i. truth (l i == r i)) ∙ truth-bit (bits_of c a == bits_of c b);
        }

    pub not_equal-written : Written 1 (pos (truth (not (bits_of c a == bits_of c b)))) (Binary NotEqual x y)
    not_equal-written =
        let l = together-written c a x y (is_signed nets x && is_signed nets y) p q.length in
        let r = together-written c b y x (is_signed nets y && is_signed nets x) q p.length in
        record {
          length = length-Binary nets NotEqual x y;
          value = λ signed. value-Binary nets row 1 signed NotEqual x y ∙ (λ i. truth (not (l i == r i))) ∙ truth-bit (not (bits_of c a == bits_of c b));
        }

    -- a comparison by numbers, of operands that are both signed
    pub less-written : 1 ≤ c → size_of a < 2 ^ (c - 1) → size_of b < 2 ^ (c - 1) → Written 1 (pos (truth (int_lt a b))) (Binary Less (AsSigned x) (AsSigned y))
    less-written h f g =
        let xs : Expr = AsSigned x in
        let ys : Expr = AsSigned y in
        let pp = as_signed-written c a x p in
        let qq = as_signed-written c b y q in
        let l = together-written c a xs ys (is_signed nets xs && is_signed nets ys) pp qq.length in
        let r = together-written c b ys xs (is_signed nets ys && is_signed nets xs) qq pp.length in
        let lw : max (own_length nets xs) (own_length nets ys) ≡ c = omega (arith, pp.length, qq.length) in
        let rw' : max (own_length nets ys) (own_length nets xs) ≡ c = omega (arith, pp.length, qq.length) in
        let sx = sign-AsSigned nets x in
        let sy = sign-AsSigned nets y in
        record {
          length = length-Binary nets Less xs ys;
          value = λ signed. value-Binary nets row 1 signed Less xs ys
              ∙ (λ i. truth (int_lt (number_of (record { width = lw i; signed = sx i && sy i; bits = l i })) (number_of (record { width = rw' i; signed = sy i && sx i; bits = r i }))))
              ∙ (λ i. truth (int_lt (number-back c a h f i) (number-back c b h g i)))
              ∙ truth-bit (int_lt a b);
        }

    -- a comparison of operands without sign
    pub less_plain-written : is_signed nets x ≡ false → is_signed nets y ≡ false → number_of (record { width = c; signed = false; bits = bits_of c a }) ≡ a
        → number_of (record { width = c; signed = false; bits = bits_of c b }) ≡ b → Written 1 (pos (truth (int_lt a b))) (Binary Less x y)
    less_plain-written sx sy f g =
        let l = together-written c a x y (is_signed nets x && is_signed nets y) p q.length in
        let r = together-written c b y x (is_signed nets y && is_signed nets x) q p.length in
        let lw : max (own_length nets x) (own_length nets y) ≡ c = omega (arith, p.length, q.length) in
        let rw' : max (own_length nets y) (own_length nets x) ≡ c = omega (arith, p.length, q.length) in
        record {
          length = length-Binary nets Less x y;
          value = λ signed. value-Binary nets row 1 signed Less x y
              ∙ (λ i. truth (int_lt (number_of (record { width = lw i; signed = sx i && sy i; bits = l i })) (number_of (record { width = rw' i; signed = sy i && sx i; bits = r i }))))
              ∙ (λ i. truth (int_lt (f i) (g i)))
              ∙ truth-bit (int_lt a b);
        }
