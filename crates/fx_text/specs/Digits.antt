-- Runs of decimal digits and the number that they give: std's `digits_value 10`.
use Rattle.std.specs.Prelude.{ℕ, Bool, List, ◌&&◌, nat_le, length}
use Rattle.std.specs.List.{list_all}
use Rattle.std.specs.Char.{is_ascii_digit}

-- 1 to `most` digits
abbrev pub is_number : ℕ → List ℕ → Bool
is_number most text =
    nat_le 1 (length text) && nat_le (length text) most && list_all is_ascii_digit text
