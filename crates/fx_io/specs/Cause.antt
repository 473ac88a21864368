-- Counts of faults, in 64 bits: one that stands at its last value rises no further (own).
use Rattle.std.specs.Prelude.{ℕ, ◌+◌, ◌-◌, ◌^◌, ◌≤◌, min}

-- one more, up to the last value
abbrev pub counted : ℕ → ℕ
counted count = min (count + 1) (2 ^ 64 - 1)

-- the count is greater than before, or stands at its last value
abbrev pub Rose : ℕ → ℕ → Type 0
Rose before now = counted before ≤ now
