-- The numbers that a sample is made of: a congruential sequence modulo 2^64 (own; the multiplier
-- and the increment are Knuth's of MMIX).
use Rattle.std.specs.Prelude.{ℕ, zero, suc, ◌+◌, ◌*◌, ◌%◌, ◌^◌}

-- the greatest number of a sample, which is how many blocks its chain has (own)
abbrev pub greatest_sample : ℕ
greatest_sample = 5000

-- the number after a number
unfoldable pub number_after : ℕ → ℕ
number_after number = (6364136223846793005 * number + 1442695040888963407) % 2 ^ 64

-- number i of the sample of so many blocks; number 0 is how many
abbrev pub sample_number : ℕ → ℕ → ℕ
sample_number count zero = count
sample_number count (suc i) = number_after (sample_number count i)
