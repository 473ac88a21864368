-- Powers of two in 128 bits, and how large a product of two stored integers is.
use Rattle.std.proofs.Common.{◌≡◌, ℕ, ◌-◌, ◌*◌, ◌%◌, ◌^◌, ◌<◌, ◌≤◌, Bool, true, false, true≢false, cond, ◌||◌, ℤ, pos, ◌*ℤ◌, to_z, ap, mul_comm, ◌∙◌, arith, pow_pos, FitsSigned, unsigned_abs, refl}
use Rattle.std.specs.Int.{w128}
use Rattle.std.proofs.lemmas.Int.{ints, to_z_pos, fits_signed_mul}
use Rattle.std.proofs.Math.Dec.{lit<}
use Rattle.std.proofs.Math.Pow.{pow-lt}
use Rattle.std.proofs.Math.Nat.{mod-eq_of_lt}
use Rattle.fx_type.specs.declared.kind.FxType.{FxType}
use Rattle.fx_type.specs.declared.kind.FxType.TheVariants.{Num, Logical}
use Rattle.fx_type.specs.FxType.{IsType, IsNumber, InRange, is_signed, width_of}
use Rattle.fx_type.specs.FullType.{IsFullProduct}
use Rattle.fx_type.proofs.Ranges.{some-width}
use Rattle.math_num.proofs.Arithmetic.{abs-between, abs-below, below-power, below-power-strict}

-- 1, shifted up by less than 127 bits
pub one_shifted : (gap : ℕ) → gap < 127 → to_z w128 ((1 * 2 ^ gap) % 2 ^ 128) ≡ pos (2 ^ gap)
one_shifted gap h =
    let small : 2 ^ gap < 2 ^ 127 = pow-lt h
    in let e : (1 * 2 ^ gap) % 2 ^ 128 ≡ 2 ^ gap = mod-eq_of_lt (omega (arith, small)) ∙ omega arith
    in ap (to_z w128) e ∙ to_z_pos w128 (2 ^ gap) small

-- ---- products

-- how many bits the absolute value of a type's stored integers has at most
abbrev exponent : FxType → ℕ
exponent type = cond (is_signed type) (width_of type - 1) (width_of type)

-- a stored integer's absolute value
record IsWithin (type : FxType) (v : ℤ) : Type 0 where
  at_most : unsigned_abs v ≤ 2 ^ exponent type
  below : is_signed type ≡ false → unsigned_abs v < 2 ^ exponent type

within : (type : FxType) (v : ℤ) → InRange type v → IsWithin type v
within (Num true width frac) v range = record {
  at_most = abs-between v (2 ^ (width - 1)) range.low (omega (arith, ints, range.high));
  below = λ e. absurd (true≢false e);
}
within (Num false width frac) v range =
    let below = abs-below v (2 ^ width) range.low range.high (pow_pos width)
    in record { at_most = omega (arith, below); below = λ e. below }
within Logical v range =
    let below = abs-below v 2 range.low range.high (lit< tt)
    in record { at_most = omega (arith, below); below = λ e. below }

-- the width of a number type
signed_width : (type : FxType) → IsType type → IsNumber type → is_signed type ≡ true → width_of type ≤ 128
signed_width (Num true width frac) valid number e = valid.0.1
signed_width (Num false width frac) valid number e = omega (arith, valid.0.1)
signed_width Logical valid number e = elim number [ ]

unsigned_width : (type : FxType) → IsType type → IsNumber type → is_signed type ≡ false → width_of type ≤ 127
unsigned_width (Num true width frac) valid number e = absurd (true≢false e)
unsigned_width (Num false width frac) valid number e = valid.0.1
unsigned_width Logical valid number e = elim number [ ]

signed_exponent : (type : FxType) → is_signed type ≡ true → exponent type ≡ width_of type - 1
signed_exponent type e = ap (λ b. cond b (width_of type - 1) (width_of type)) e

unsigned_exponent : (type : FxType) → is_signed type ≡ false → exponent type ≡ width_of type
unsigned_exponent type e = ap (λ b. cond b (width_of type - 1) (width_of type)) e

-- the exact product of two stored integers fits 128 bits where its full type is valid
module _ (a b full : FxType) (x y : ℤ) (valid_a : IsType a) (valid_b : IsType b) (in_a : InRange a x) (in_b : InRange b y) (is_full : IsFullProduct a b full) where
  by_signs : (sa sb : Bool) → is_signed a ≡ sa → is_signed b ≡ sb → unsigned_abs x * unsigned_abs y < 2 ^ 127
  by_signs true true ea eb =
      let sign : is_signed full ≡ true = is_full.sign ∙ ap (λ s. s || is_signed b) ea
      in below-power _ _ _ _ 127 (within a x in_a).at_most (within b y in_b).at_most
      (omega (arith, signed_width full is_full.valid is_full.number sign, is_full.width, signed_exponent a ea, signed_exponent b eb, some-width a valid_a, some-width b valid_b))
  by_signs true false ea eb =
      let sign : is_signed full ≡ true = is_full.sign ∙ ap (λ s. s || is_signed b) ea
      in below-power-strict _ _ _ _ 127 (within a x in_a).at_most ((within b y in_b).below eb)
      (omega (arith, signed_width full is_full.valid is_full.number sign, is_full.width, signed_exponent a ea, unsigned_exponent b eb, some-width a valid_a))
  by_signs false true ea eb =
      let sign : is_signed full ≡ true = is_full.sign ∙ ap (λ s. s || is_signed b) ea ∙ eb
      in let swapped : unsigned_abs y * unsigned_abs x < 2 ^ 127 = below-power-strict _ _ _ _ 127 (within b y in_b).at_most ((within a x in_a).below ea)
      (omega (arith, signed_width full is_full.valid is_full.number sign, is_full.width, unsigned_exponent a ea, signed_exponent b eb, some-width b valid_b))
      in omega (arith, mul_comm (unsigned_abs x) (unsigned_abs y), swapped)
  by_signs false false ea eb =
      let sign : is_signed full ≡ false = is_full.sign ∙ ap (λ s. s || is_signed b) ea ∙ eb
      in below-power-strict _ _ _ _ 127 (within a x in_a).at_most ((within b y in_b).below eb)
      (omega (arith, unsigned_width full is_full.valid is_full.number sign, is_full.width, unsigned_exponent a ea, unsigned_exponent b eb))

  pub product_fits : FitsSigned w128 (x *ℤ y)
  product_fits = fits_signed_mul w128 x y (unsigned_abs x) (unsigned_abs y) (omega arith) (omega arith) (by_signs (is_signed a) (is_signed b) refl refl)
