-- Rounding and conversion in 64 bits: what is prepared from types alone, and what a step then gives
-- (own).
use Rattle.std.specs.Prelude.{◌≡◌, ℕ, ◌^◌, ◌-◌, ◌≤◌, Bool, true, false, ℤ, pos, neg_ℤ, ◌+ℤ◌, ◌*ℤ◌, ◌≤ℤ◌, ◌<ℤ◌, cond, int_lt, ⊤}
use Rattle.std.specs.Int.{int_gap}
use Rattle.fx_type.specs.declared.kind.FxType.{FxType}
use Rattle.fx_type.specs.declared.rounding.Rounding.{Rounding}
use Rattle.fx_type.specs.declared.rounding.Rounding.TheVariants.{Floor, Ceiling, Zero, Nearest, Round, Convergent}
use Rattle.fx_type.specs.FxType.{IsType, IsNumber, is_signed, width_of, frac_of, lowest_of, highest_of}
use Rattle.fx_type.specs.Conversion.{twice, IsEven, RoundsDown}
use Rattle.dg_blocks.specs.declared.narrow.Way.{Way}
use Rattle.dg_blocks.specs.declared.narrow.Way.TheVariants.{Exact, Wraps, Ends, Any}
use Rattle.dg_blocks.specs.declared.narrow.Narrow.{Narrow}

-- a number of at most 61 bits and a sign
pub record IsSmall (v : ℤ) : Type 0 where
  pub low : neg_ℤ (pos (2 ^ 61)) ≤ℤ v
  pub high : v ≤ℤ pos (2 ^ 61)

-- a number of at most 62 bits and a sign
pub record IsModest (v : ℤ) : Type 0 where
  pub low : neg_ℤ (pos (2 ^ 62)) ≤ℤ v
  pub high : v ≤ℤ pos (2 ^ 62)

-- what is added before a shift down by `down` bits, so that the whole number below is the one that
-- the mode takes, `below` where the number is below 0; `even` marks that an odd number below has
-- one more
abbrev pub IsBias : Rounding → ℕ → ℤ → ℤ → Bool → Type 0
IsBias Floor d bias below even = (bias ≡ pos 0) × (below ≡ pos 0) × (even ≡ false)
IsBias Ceiling d bias below even =
    (bias +ℤ pos 1 ≡ pos d) × (below +ℤ pos 1 ≡ pos d) × (even ≡ false)
IsBias Zero d bias below even = (bias ≡ pos 0) × (below +ℤ pos 1 ≡ pos d) × (even ≡ false)
IsBias Nearest d bias below even = (twice bias ≡ pos d) × (twice below ≡ pos d) × (even ≡ false)
IsBias Round d bias below even =
    (twice bias ≡ pos d) × (twice below +ℤ pos 2 ≡ pos d) × (even ≡ false)
IsBias Convergent d bias below even =
    (twice bias +ℤ pos 2 ≡ pos d) × (twice below +ℤ pos 2 ≡ pos d) × (even ≡ true)

-- the bias of a number, which its sign tells
abbrev pub bias_for : ℤ → ℤ → ℤ → ℤ
bias_for v bias below = cond (int_lt v (pos 0)) below bias

-- one more where the lower whole number is odd
pub record IsTie (even : Bool) (lower tie : ℤ) : Type 0 where
  pub none : even ≡ false → tie ≡ pos 0
  pub low : pos 0 ≤ℤ tie
  pub high : tie ≤ℤ pos 1
  pub stays : even ≡ true → tie ≡ pos 0 → IsEven lower
  pub goes : even ≡ true → tie ≡ pos 1 → IsEven (lower +ℤ pos 1)

-- r is the whole number below v / d, with the bias and the tie added before
pub record IsShifted (v bias : ℤ) (even : Bool) (d : ℕ) (r : ℤ) : Type 0 where
  pub lower : ℤ
  pub floors : RoundsDown v d lower
  pub tie : ℤ
  pub is_tie : IsTie even lower tie
  pub rounds : RoundsDown (v +ℤ bias +ℤ tie) d r

-- the ends of the result type are prepared
pub record HasEnds (narrow : Narrow) (to : FxType) (saturate : Bool) : Type 0 where
  pub valid : IsType to
  pub number : IsNumber to
  pub width_below : width_of to ≤ 60
  pub saturate_is : narrow.saturate ≡ saturate
  pub low_is : narrow.low ≡ lowest_of to
  pub high_is : narrow.high ≡ highest_of to

-- the shifts and the bias are prepared, for a number in units of 2 to the -frac; where no bit falls
-- away nothing is rounded
pub record HasShifts (narrow : Narrow) (frac : ℤ) (to : FxType) (mode : Rounding) : Type 0 where
  pub scale : narrow.scale ≡ pos (2 ^ int_gap frac (frac_of to))
  pub down : narrow.down ≡ int_gap (frac_of to) frac
  pub down_below : narrow.down ≤ 60
  pub whole : narrow.down ≡ 0 → (narrow.bias ≡ pos 0) × (narrow.below ≡ pos 0)
      × (narrow.even ≡ false)
  pub parts : 1 ≤ narrow.down → IsBias mode (2 ^ narrow.down) narrow.bias narrow.below narrow.even
  pub bias_low : pos 0 ≤ℤ narrow.bias
  pub bias_high : narrow.bias ≤ℤ pos (2 ^ 60)
  pub below_low : pos 0 ≤ℤ narrow.below
  pub below_high : narrow.below ≤ℤ pos (2 ^ 60)

-- one bias serves both signs, and nothing else is asked for before the shift down
pub record HasOneBias (narrow : Narrow) : Type 0 where
  pub scale : narrow.scale ≡ pos 1
  pub below : narrow.below ≡ narrow.bias
  pub even : narrow.even ≡ false

-- what a way leaves out isn't needed
abbrev pub IsWay : Way → Narrow → Type 0
IsWay Exact narrow = narrow.down ≡ 0
IsWay Wraps narrow = HasOneBias narrow × (narrow.saturate ≡ false)
IsWay Ends narrow = HasOneBias narrow × (narrow.saturate ≡ true)
IsWay Any narrow = ⊤

-- a conversion of a number in units of 2 to the -frac is prepared
pub record IsNarrow (narrow : Narrow) (frac : ℤ) (to : FxType) (mode : Rounding)
    (saturate : Bool) : Type 0 where
  pub ends : HasEnds narrow to saturate
  pub shifts : HasShifts narrow frac to mode
  pub way : IsWay narrow.way narrow

-- how many bits a type's stored integers have beside a sign
abbrev pub magnitude_of : FxType → ℕ
magnitude_of type = cond (is_signed type) (width_of type - 1) (width_of type)

-- a number of so many bits and a sign
pub record IsWithin (bits : ℕ) (v : ℤ) : Type 0 where
  pub low : neg_ℤ (pos (2 ^ bits)) ≤ℤ v
  pub high : v <ℤ pos (2 ^ bits)

-- the least number of a type is as low as those of so many bits and a sign
abbrev pub ReachesBelow : ℤ → ℕ → Type 0
ReachesBelow low bits = low ≤ℤ neg_ℤ (pos (2 ^ bits))

-- such numbers are small enough for the conversion, and in range where that is only a shift up
pub record HasRoom (narrow : Narrow) (bits : ℕ) : Type 0 where
  pub bits_below : bits ≤ 61
  pub small : (v : ℤ) → IsWithin bits v → IsSmall (v *ℤ narrow.scale)
  pub in_range : narrow.way ≡ Exact → (v : ℤ) → IsWithin bits v
      → (narrow.low ≤ℤ (v *ℤ narrow.scale)) × ((v *ℤ narrow.scale) ≤ℤ narrow.high)
