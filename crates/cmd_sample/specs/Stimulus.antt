-- The stimulus and the plan of a sample (own).
use Rattle.std.specs.Prelude.{ℕ, ◌+◌, ◌/◌, ◌^◌, ℤ, pos, ◌-ℤ◌, List, ◌++◌, codes}
use Rattle.std.specs.Fmt.{signed_decimal}
use Rattle.std.specs.List.{flat_map, range_with_len}
use Rattle.cmd_sample.specs.Numbers.{sample_number}

-- the 16 bits of a number that count most, as a signed number around 0
abbrev pub stimulus_of : ℕ → ℤ
stimulus_of number = pos (number / 2 ^ 48) -ℤ pos 32768

-- its line
abbrev pub stimulus_line : ℕ → List ℕ
stimulus_line number = signed_decimal (stimulus_of number) ++ codes "\n"

-- the line of the number with this number
abbrev pub stimulus_at : ℕ → ℕ → List ℕ
stimulus_at count i = stimulus_line (sample_number count i)

-- eight base samples, by the numbers behind those of the chain
abbrev pub sample_stimulus : ℕ → List ℕ
sample_stimulus count = flat_map (stimulus_at count) (range_with_len (count + 1) 8)

-- the plan
abbrev pub sample_plan : List ℕ
sample_plan = codes "cycles 64\nmultipliers 64\n"
