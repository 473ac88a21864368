-- The lowest bits of a number, a number shifted down, and truth as a number (own).
use Rattle.std.specs.Prelude.{ℕ, ◌-◌, ◌/◌, ◌%◌, ◌^◌, ℤ, pos, negsuc, Bool, if◌then◌else◌}

-- the lowest bits of a number in two's complement
abbrev pub low_bits : ℕ → ℤ → ℕ
low_bits width (pos n) = n % 2 ^ width
low_bits width (negsuc n) = 2 ^ width - 1 - n % 2 ^ width

-- a number by a power of two, rounded down
abbrev pub shifted_down : ℤ → ℕ → ℤ
shifted_down (pos n) places = pos (n / 2 ^ places)
shifted_down (negsuc n) places = negsuc (n / 2 ^ places)

abbrev pub truth : Bool → ℤ
truth holds = if holds then pos 1 else pos 0
