-- Whole numbers as a text writes them (own).
use Rattle.std.specs.Prelude.{ℕ, ℤ, pos, neg_ℤ, Bool, List, drop, if◌then◌else◌}
use Rattle.std.specs.Str.Parse.{digits_value, starts_with_minus}
use Rattle.fx_text.specs.Digits.{is_number}

-- what stands after the one minus that may come first
abbrev pub digits_of_whole : List ℕ → List ℕ
digits_of_whole text = if starts_with_minus text then drop 1 text else text

-- an optional minus and 1 to 64 digits
abbrev pub is_whole : List ℕ → Bool
is_whole text = is_number 64 (digits_of_whole text)

-- the number that such a text is
abbrev pub whole_value : List ℕ → ℤ
whole_value text =
    if starts_with_minus text then neg_ℤ (pos (digits_value 10 (digits_of_whole text)))
    else pos (digits_value 10 (digits_of_whole text))
