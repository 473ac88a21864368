-- The plans of a range, numbered (own).
use Rattle.std.specs.Prelude.{◌≡◌, ℕ, ◌+◌, ◌-◌, ◌*◌, ◌/◌, ◌%◌, ◌&&◌, nat_le, Bool, true, if◌then◌else◌, Option, Some, None}
use Rattle.dg_model.specs.Limits.{most_cycles}
use Rattle.hw_explore.specs.declared.range.Ends.{Ends}
use Rattle.hw_explore.specs.declared.range.Range.{Range}

-- how many numbers of multipliers there are, and how many pairs of clocks and multipliers
abbrev pub choices_of : Range → ℕ
choices_of range = range.high_multipliers - range.low_multipliers + 1

abbrev pub pairs_of : Range → ℕ
pairs_of range = (range.high_cycles - range.low_cycles + 1) * choices_of range

-- the most pairs of clocks and multipliers in a range
abbrev pub most_pairs : ℕ
most_pairs = 4096

-- 1 to 1024 clocks and 0 to 64 multipliers, each from the lowest to the highest, and at most 4096
-- pairs
abbrev pub is_range : Range → Bool
is_range range =
    nat_le 1 range.low_cycles && nat_le range.low_cycles range.high_cycles
    && nat_le range.high_cycles most_cycles
    && nat_le range.low_multipliers range.high_multipliers && nat_le range.high_multipliers 64
    && nat_le (pairs_of range) most_pairs

abbrev pub IsRange : Range → Type 0
IsRange range = is_range range ≡ true

-- the range of clocks and of multipliers between these ends, where it is one
abbrev pub between : Ends → Ends → Range
between cycles multipliers =
    record {
      low_cycles = cycles.low;
      high_cycles = cycles.high;
      low_multipliers = multipliers.low;
      high_multipliers = multipliers.high;
    }

abbrev pub range_between : Ends → Ends → Option Range
range_between cycles multipliers =
    if is_range (between cycles multipliers) then Some (between cycles multipliers) else None

-- the pair of a number: all numbers of multipliers for the least clocks, then for the next
abbrev pub cycles_of : Range → ℕ → ℕ
cycles_of range place = range.low_cycles + place / choices_of range

abbrev pub multipliers_of : Range → ℕ → ℕ
multipliers_of range place = range.low_multipliers + place % choices_of range
