-- A word as wide as two words together has the products of their numbers.
use Rattle.std.proofs.Common.{◌≡◌, ℕ, ◌+◌, ◌-◌, ◌*◌, ◌^◌, ◌<◌, ◌≤◌, Bool, true, false, true≢false, cond, ◌||◌, ℤ, pos, ◌*ℤ◌, ◌≤ℤ◌, mul_comm, arith, pow_pos, unsigned_abs, refl}
use Rattle.std.proofs.lemmas.Int.{ints}
use Rattle.math_num.specs.Word.{IsWord, InWord}
use Rattle.math_num.proofs.Arithmetic.{abs-between, abs-below, below-power, below-power-strict}
use Rattle.math_num.proofs.Words.{signed-product, unsigned-product}

-- how many bits the absolute value of a word's numbers has at most
abbrev exponent : ℕ → Bool → ℕ
exponent width signed = cond signed (width - 1) width

-- a number's absolute value
record IsWithin (width : ℕ) (signed : Bool) (v : ℤ) : Type 0 where
  at_most : unsigned_abs v ≤ 2 ^ exponent width signed
  below : signed ≡ false → unsigned_abs v < 2 ^ exponent width signed
  sign : signed ≡ false → pos 0 ≤ℤ v

within : (width : ℕ) (signed : Bool) (v : ℤ) → InWord width signed v → IsWithin width signed v
within width true v has = record {
  at_most = abs-between v (2 ^ (width - 1)) has.low (omega (arith, ints, has.high));
  below = λ e. absurd (true≢false e);
  sign = λ e. absurd (true≢false e);
}
within width false v has =
    let less = abs-below v (2 ^ width) has.low has.high (pow_pos width)
    in record { at_most = omega (arith, less); below = λ e. less; sign = λ e. has.low }

pub product-in : (one other : ℕ) (signed also : Bool) (x y : ℤ) → IsWord one signed → IsWord other also → InWord one signed x → InWord other also y → InWord (one + other) (signed || also) (x *ℤ y)
product-in one other true true x y p q a b =
    let less : unsigned_abs x * unsigned_abs y < 2 ^ (one + other - 1) =
    below-power (unsigned_abs x) (unsigned_abs y) (one - 1) (other - 1) (one + other - 1)
    (within one true x a).at_most (within other true y b).at_most (omega (arith, p.0, q.0))
    in signed-product x y (one + other) less
product-in one other true false x y p q a b =
    let less : unsigned_abs x * unsigned_abs y < 2 ^ (one + other - 1) =
    below-power-strict (unsigned_abs x) (unsigned_abs y) (one - 1) other (one + other - 1)
    (within one true x a).at_most ((within other false y b).below refl) (omega (arith, p.0))
    in signed-product x y (one + other) less
product-in one other false true x y p q a b =
    let swapped : unsigned_abs y * unsigned_abs x < 2 ^ (one + other - 1) =
    below-power-strict (unsigned_abs y) (unsigned_abs x) (other - 1) one (one + other - 1)
    (within other true y b).at_most ((within one false x a).below refl) (omega (arith, q.0))
    in let less : unsigned_abs x * unsigned_abs y < 2 ^ (one + other - 1) = omega (arith, mul_comm (unsigned_abs x) (unsigned_abs y), swapped)
    in signed-product x y (one + other) less
product-in one other false false x y p q a b =
    let less : unsigned_abs x * unsigned_abs y < 2 ^ (one + other) =
    below-power-strict (unsigned_abs x) (unsigned_abs y) one other (one + other) (within one false x a).at_most
    ((within other false y b).below refl) (omega arith)
    in unsigned-product x y (one + other) ((within one false x a).sign refl) ((within other false y b).sign refl) less
