-- Whole numbers without sign (own).
use Rattle.std.specs.Prelude.{◌≡◌, ℕ, ◌<◌, List, true, length}
use Rattle.std.specs.List.{list_all}
use Rattle.std.specs.Char.{is_ascii_digit}
use Rattle.std.specs.Str.Parse.{digits_value}
use Rattle.dg_model.specs.KindRow.{IsBetween}

-- one digit or more, and nothing else, whose number has these ends
pub record IsNumberText (low high : ℕ) (text : List ℕ) (number : ℕ) : Type 0 where
  pub some_digit : 0 < length text
  pub are_digits : list_all is_ascii_digit text ≡ true
  pub value : number ≡ digits_value 10 text
  pub in_range : IsBetween low high number
