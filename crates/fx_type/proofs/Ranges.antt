-- The ranges of types.
use Rattle.std.proofs.Common.{◌≡◌, ◌-◌, ◌^◌, ◌≤◌, true, false, ℤ, pos, negsuc, ◌≤ℤ◌, refl, arith, pow_mono, FitsSigned}
use Rattle.std.specs.Int.{w128}
use Rattle.std.proofs.lemmas.Int.{ints}
use Rattle.fx_type.specs.declared.kind.FxType.{FxType}
use Rattle.fx_type.specs.declared.kind.FxType.TheVariants.{Num, Logical}
use Rattle.fx_type.specs.FxType.{IsType, frac_of, lowest_of, highest_of, InRange, width_of, is_signed}
use Rattle.math_num.specs.Word.{IsWord, InWord, word_lowest, word_highest}
use Rattle.std.proofs.Math.Dec.{lit≤}

-- 0 lies in every range
pub lowest_sign : (t : FxType) → lowest_of t ≤ℤ pos 0
lowest_sign (Num true w f) = omega (arith, ints)
lowest_sign (Num false w f) = omega (arith, ints)
lowest_sign Logical = omega (arith, ints)

pub highest_sign : (t : FxType) → pos 0 ≤ℤ highest_of t
highest_sign (Num true w f) = omega (arith, ints)
highest_sign (Num false w f) = omega (arith, ints)
highest_sign Logical = omega (arith, ints)

pub InRange-lowest : (t : FxType) → InRange t (lowest_of t)
InRange-lowest t = record { low = omega (arith, ints); high = omega (arith, ints, lowest_sign t, highest_sign t) }

pub InRange-highest : (t : FxType) → InRange t (highest_of t)
InRange-highest t = record { low = omega (arith, ints, lowest_sign t, highest_sign t); high = omega (arith, ints) }

pub InRange-zero : (t : FxType) → InRange t (pos 0)
InRange-zero t = record { low = lowest_sign t; high = highest_sign t }

-- the range of a valid type has numbers of 128 bits
pub InRange-fits : (t : FxType) (v : ℤ) → IsType t → InRange t v → FitsSigned w128 v
InRange-fits (Num true w f) v h r =
    let k : w - 1 ≤ 127 = omega (arith, h.0.1) in
    let p : 2 ^ (w - 1) ≤ 2 ^ 127 = pow_mono k in
    omega (arith, ints, r.low, r.high)
InRange-fits (Num false w f) v h r =
    let p : 2 ^ w ≤ 2 ^ 127 = pow_mono h.0.1 in
    omega (arith, ints, r.low, r.high)
InRange-fits Logical v h r = omega (arith, ints, r.low, r.high)

pub InRange-between : (t : FxType) (l h v : ℤ) → InRange t l → InRange t h → l ≤ℤ v → v ≤ℤ h → InRange t v
InRange-between t l h v p q a b = record { low = omega (arith, ints, p.low, a); high = omega (arith, ints, q.high, b) }

-- ---- fracs
pub frac_bounds : (t : FxType) → IsType t → (negsuc 63 ≤ℤ frac_of t) × (frac_of t ≤ℤ pos 128)
frac_bounds (Num s w f) h = (h.1, h.2)
frac_bounds Logical h = (omega (arith, ints), omega (arith, ints))

-- the word of a valid type is one, and has its range
pub type-word : (type : FxType) → IsType type → IsWord (width_of type) (is_signed type)
type-word (Num signed width frac) valid = valid.0
type-word Logical valid = (lit≤ tt, lit≤ tt)

pub type-lowest : (type : FxType) → word_lowest (width_of type) (is_signed type) ≡ lowest_of type
type-lowest (Num signed width frac) = refl
type-lowest Logical = refl

pub type-highest : (type : FxType) → word_highest (width_of type) (is_signed type) ≡ highest_of type
type-highest (Num signed width frac) = refl
type-highest Logical = refl

pub range-word : (type : FxType) (v : ℤ) → InRange type v → InWord (width_of type) (is_signed type) v
range-word (Num signed width frac) v range = record { low = range.low; high = range.high }
range-word Logical v range = record { low = range.low; high = omega (arith, ints, range.high) }

pub some-width : (type : FxType) → IsType type → 1 ≤ width_of type
some-width (Num true width frac) valid = omega (arith, valid.0.0)
some-width (Num false width frac) valid = valid.0.0
some-width Logical valid = lit≤ tt
