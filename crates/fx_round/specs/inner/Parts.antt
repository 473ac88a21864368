-- A number between two whole numbers, as the lower one and the place between them (own).
use Rattle.std.specs.Prelude.{◌≡◌, ℕ, ◌*◌, ◌<◌, Bool, true, false, ℤ, pos, ◌+ℤ◌, ◌*ℤ◌, ◌≤ℤ◌, ◌≤◌, ◌+◌, not, Option, Some, None}
use Rattle.fx_round.specs.declared.split.Part.{Part}
use Rattle.fx_round.specs.declared.split.Part.TheVariants.{Whole, BelowHalf, Half, AboveHalf}
use Rattle.fx_round.specs.declared.split.Split.{Split}
use Rattle.fx_round.specs.declared.stored.Mixed.{Mixed}
use Rattle.fx_type.specs.declared.rounding.Rounding.{Rounding}
use Rattle.fx_type.specs.declared.rounding.Rounding.TheVariants.{Floor, Ceiling, Zero, Nearest, Round, Convergent}

-- where rest / d lies between 0 and 1
abbrev pub IsPart : ℕ → ℕ → Part → Type 0
IsPart d rest Whole = rest ≡ 0
IsPart d rest BelowHalf = (0 < rest) × (2 * rest < d)
IsPart d rest Half = 2 * rest ≡ d
IsPart d rest AboveHalf = d < 2 * rest

-- n / d is `floor` and a part
pub record IsSplit (n : ℤ) (d : ℕ) (floor : ℤ) (part : Part) : Type 0 where
  pub rest : ℕ
  pub whole : n ≡ floor *ℤ pos d +ℤ pos rest
  pub below : rest < d
  pub is_part : IsPart d rest part

-- whether the mode takes the upper of the two whole numbers, by the sign of the number and whether
-- the lower one is odd
abbrev pub takes_upper : Rounding → Part → Bool → Bool → Bool
takes_upper mode Whole negative odd = false
takes_upper Floor BelowHalf negative odd = false
takes_upper Floor Half negative odd = false
takes_upper Floor AboveHalf negative odd = false
takes_upper Ceiling BelowHalf negative odd = true
takes_upper Ceiling Half negative odd = true
takes_upper Ceiling AboveHalf negative odd = true
takes_upper Zero BelowHalf negative odd = negative
takes_upper Zero Half negative odd = negative
takes_upper Zero AboveHalf negative odd = negative
takes_upper Nearest BelowHalf negative odd = false
takes_upper Nearest Half negative odd = true
takes_upper Nearest AboveHalf negative odd = true
takes_upper Round BelowHalf negative odd = false
takes_upper Round Half negative odd = not negative
takes_upper Round AboveHalf negative odd = true
takes_upper Convergent BelowHalf negative odd = false
takes_upper Convergent Half negative odd = odd
takes_upper Convergent AboveHalf negative odd = true

-- the split of n / d, which is not negative
pub record IsMagnitude (n d : ℕ) (split : Split) : Type 0 where
  pub not_negative : pos 0 ≤ℤ split.floor
  pub is_split : IsSplit (pos n) d split.floor split.part

-- the split of n / d, or nothing where that is 2 to the power 127 or more
abbrev pub IsSize : ℕ → ℕ → Option Split → Type 0
IsSize n d None = 170141183460469231731687303715884105728 * d ≤ n
IsSize n d (Some split) = IsMagnitude n d split

-- the number with the whole part and rest, over `unit`, counted in units
abbrev pub mixed_count : Mixed → ℕ → ℕ
mixed_count mixed unit = mixed.whole * unit + mixed.rest
