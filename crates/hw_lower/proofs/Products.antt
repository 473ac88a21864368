-- A product is in the word of its full type.
use Rattle.std.proofs.Common.{◌≡◌, ℕ, ◌-◌, ◌*◌, ◌^◌, ◌<◌, ◌≤◌, Bool, true, false, true≢false, cond, ◌||◌, ℤ, pos, ◌*ℤ◌, ◌≤ℤ◌, ap, sym, mul_comm, ◌∙◌, arith, pow_pos, unsigned_abs, refl, subst}
use Rattle.std.proofs.lemmas.Int.{ints}
use Rattle.std.proofs.Math.Dec.{lit<}
use Rattle.math_num.specs.Word.{InWord, IsWrapped}
use Rattle.fx_type.specs.declared.kind.FxType.{FxType}
use Rattle.fx_type.specs.declared.kind.FxType.TheVariants.{Num, Logical}
use Rattle.fx_type.specs.FxType.{IsType, InRange, is_signed, width_of}
use Rattle.fx_type.specs.FullType.{IsFullProduct}
use Rattle.math_num.proofs.Words.{wrapped-is, signed-product, unsigned-product}
use Rattle.math_num.proofs.Arithmetic.{abs-between, abs-below, below-power, below-power-strict}
use Rattle.fx_type.proofs.Ranges.{some-width, type-word}

pub word-range : (type : FxType) (v : ℤ) → InWord (width_of type) (is_signed type) v → InRange type v
word-range (Num signed width frac) v range = record { low = range.low; high = range.high }
word-range Logical v range = record { low = range.low; high = omega (arith, ints, range.high) }

-- how many bits the absolute value of a type's stored integers has at most
abbrev exponent : FxType → ℕ
exponent type = cond (is_signed type) (width_of type - 1) (width_of type)

-- a stored integer's absolute value
record IsWithin (type : FxType) (v : ℤ) : Type 0 where
  at_most : unsigned_abs v ≤ 2 ^ exponent type
  below : is_signed type ≡ false → unsigned_abs v < 2 ^ exponent type
  sign : is_signed type ≡ false → pos 0 ≤ℤ v

within : (type : FxType) (v : ℤ) → InRange type v → IsWithin type v
within (Num true width frac) v range = record {
  at_most = abs-between v (2 ^ (width - 1)) range.low (omega (arith, ints, range.high));
  below = λ e. absurd (true≢false e);
  sign = λ e. absurd (true≢false e);
}
within (Num false width frac) v range =
    let below = abs-below v (2 ^ width) range.low range.high (pow_pos width)
    in record { at_most = omega (arith, below); below = λ e. below; sign = λ e. range.low }
within Logical v range =
    let below = abs-below v 2 range.low range.high (lit< tt)
    in record { at_most = omega (arith, below); below = λ e. below; sign = λ e. range.low }

signed-exponent : (type : FxType) → is_signed type ≡ true → exponent type ≡ width_of type - 1
signed-exponent type e = ap (λ b. cond b (width_of type - 1) (width_of type)) e

unsigned-exponent : (type : FxType) → is_signed type ≡ false → exponent type ≡ width_of type
unsigned-exponent type e = ap (λ b. cond b (width_of type - 1) (width_of type)) e

module _ (a b full : FxType) (x y : ℤ) (valid_a : IsType a) (valid_b : IsType b) (in_a : InRange a x) (in_b : InRange b y) (is_full : IsFullProduct a b full) where
  of-word : (sign : Bool) → is_signed full ≡ sign → InWord (width_of full) sign (x *ℤ y) → InWord (width_of full) (is_signed full) (x *ℤ y)
  of-word sign e has = subst (λ (s : Bool). InWord (width_of full) s (x *ℤ y)) (sym e) has

  by-signs : (sa sb : Bool) → is_signed a ≡ sa → is_signed b ≡ sb → InWord (width_of full) (is_signed full) (x *ℤ y)
  by-signs true true ea eb =
      let sign : is_signed full ≡ true = is_full.sign ∙ ap (λ s. s || is_signed b) ea
      in let less : unsigned_abs x * unsigned_abs y < 2 ^ (width_of full - 1) = below-power _ _ _ _ (width_of full - 1) (within a x in_a).at_most (within b y in_b).at_most
      (omega (arith, is_full.width, signed-exponent a ea, signed-exponent b eb, some-width a valid_a, some-width b valid_b))
      in of-word true sign (signed-product x y (width_of full) less)
  by-signs true false ea eb =
      let sign : is_signed full ≡ true = is_full.sign ∙ ap (λ s. s || is_signed b) ea
      in let less : unsigned_abs x * unsigned_abs y < 2 ^ (width_of full - 1) = below-power-strict _ _ _ _ (width_of full - 1) (within a x in_a).at_most ((within b y in_b).below eb)
      (omega (arith, is_full.width, signed-exponent a ea, unsigned-exponent b eb, some-width a valid_a))
      in of-word true sign (signed-product x y (width_of full) less)
  by-signs false true ea eb =
      let sign : is_signed full ≡ true = is_full.sign ∙ ap (λ s. s || is_signed b) ea ∙ eb
      in let swapped : unsigned_abs y * unsigned_abs x < 2 ^ (width_of full - 1) = below-power-strict _ _ _ _ (width_of full - 1) (within b y in_b).at_most ((within a x in_a).below ea)
      (omega (arith, is_full.width, unsigned-exponent a ea, signed-exponent b eb, some-width b valid_b))
      in let less : unsigned_abs x * unsigned_abs y < 2 ^ (width_of full - 1) = omega (arith, mul_comm (unsigned_abs x) (unsigned_abs y), swapped)
      in of-word true sign (signed-product x y (width_of full) less)
  by-signs false false ea eb =
      let sign : is_signed full ≡ false = is_full.sign ∙ ap (λ s. s || is_signed b) ea ∙ eb
      in let less : unsigned_abs x * unsigned_abs y < 2 ^ width_of full = below-power-strict _ _ _ _ (width_of full) (within a x in_a).at_most ((within b y in_b).below eb)
      (omega (arith, is_full.width, unsigned-exponent a ea, unsigned-exponent b eb))
      in of-word false sign (unsigned-product x y (width_of full) ((within a x in_a).sign ea) ((within b y in_b).sign eb) less)

  pub product-in-word : InWord (width_of full) (is_signed full) (x *ℤ y)
  product-in-word = by-signs (is_signed a) (is_signed b) refl refl

  -- cut to the word of the full type it stays
  pub product-is : (r : ℤ) → IsWrapped (x *ℤ y) (width_of full) (is_signed full) r → r ≡ x *ℤ y
  product-is r is = wrapped-is (x *ℤ y) (width_of full) (is_signed full) r (type-word full is_full.valid) product-in-word is
