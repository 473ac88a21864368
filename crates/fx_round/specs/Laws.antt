-- Laws of rounding and conversion (own).
use Rattle.std.specs.Prelude.{◌≡◌, ℕ, ◌^◌, ◌<◌, Bool, ℤ, pos, ◌*ℤ◌, ◌≤ℤ◌}
use Rattle.std.specs.Int.{int_gap}
use Rattle.fx_type.specs.declared.kind.FxType.{FxType}
use Rattle.fx_type.specs.declared.rounding.Rounding.{Rounding}
use Rattle.fx_type.specs.declared.rounding.Rounding.TheVariants.{Floor, Ceiling}
use Rattle.fx_type.specs.declared.decimal.Decimal.{Decimal}
use Rattle.fx_type.specs.FxType.{IsType, IsNumber, frac_of, InRange, GivesOne}
use Rattle.fx_type.specs.Conversion.{Rounds, Converts, Stores}

-- a greater number is rounded to one that is no less
abbrev pub RoundingIsMonotone : Type 0
RoundingIsMonotone =
    (mode : Rounding) (n m : ℤ) (d : ℕ) (r s : ℤ) → 0 < d → n ≤ℤ m → Rounds mode n d r
    → Rounds mode m d s → r ≤ℤ s

-- no mode goes below Floor
abbrev pub FloorIsLeast : Type 0
FloorIsLeast =
    (mode : Rounding) (n : ℤ) (d : ℕ) (least r : ℤ) → 0 < d → Rounds Floor n d least
    → Rounds mode n d r → least ≤ℤ r

-- no mode goes above Ceiling
abbrev pub CeilingIsGreatest : Type 0
CeilingIsGreatest =
    (mode : Rounding) (n : ℤ) (d : ℕ) (greatest r : ℤ) → 0 < d → Rounds Ceiling n d greatest
    → Rounds mode n d r → r ≤ℤ greatest

-- where the type `to` has the value of v, as its stored integer q, the conversion gives it
abbrev pub ExactIsKept : Type 0
ExactIsKept = (v : ℤ) (from to : FxType) (mode : Rounding) (saturate : Bool) (q result : ℤ)
    → IsType to → IsNumber to → InRange to q
    → v *ℤ pos (2 ^ int_gap (frac_of from) (frac_of to))
    ≡ q *ℤ pos (2 ^ int_gap (frac_of to) (frac_of from))
    → Converts v from to mode saturate result → result ≡ q

-- a conversion to the same type changes nothing
abbrev pub SameTypeIsIdentity : Type 0
SameTypeIsIdentity =
    (v : ℤ) (type : FxType) (mode : Rounding) (saturate : Bool) (result : ℤ) → IsType type
    → InRange type v → Converts v type type mode saturate result → result ≡ v

-- each mode rounds a quotient to exactly one whole number
abbrev pub RoundingGivesOne : Type 0
RoundingGivesOne =
    (mode : Rounding) (n : ℤ) (d : ℕ) → 0 < d → (r : ℤ) × Rounds mode n d r
    × ((other : ℤ) → Rounds mode n d other → other ≡ r)

-- a conversion to a valid type gives exactly one number, in the type's range
abbrev pub ConversionGivesOne : Type 0
ConversionGivesOne =
    (v : ℤ) (from to : FxType) (mode : Rounding) (saturate : Bool) → IsType to
    → GivesOne (Converts v from to mode saturate) to

-- a decimal is stored in a valid type as exactly one number, in the type's range
abbrev pub StoringGivesOne : Type 0
StoringGivesOne = (d : Decimal) (type : FxType) → IsType type → GivesOne (Stores d type) type
