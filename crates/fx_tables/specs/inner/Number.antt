-- What the steps of reading a whole number give (own).
use Rattle.std.specs.Prelude.{◌≡◌, ℕ, ℤ, ◌-◌, ◌^◌, ◌<◌, ◌≤◌, true, false, List, Option, MatchOption, min}
use Rattle.std.specs.Int.Signed.{mag}
use Rattle.std.specs.Str.Parse.{digits_value}
use Rattle.fx_tables.specs.Whole.{is_whole, whole_value}
use Rattle.fx_text.specs.Digits.{is_number}
use Rattle.fx_tables.specs.declared.number.Whole.{Whole}
use Rattle.fx_tables.specs.declared.number.Whole.TheVariants.{Not, Far, Near}

-- the number of 1 to 64 digits, at most the greatest of 128 bits
abbrev pub IsMagnitude : List ℕ → Option ℕ → Type 0
IsMagnitude text r =
    MatchOption r (is_number 64 text ≡ false) (λ magnitude.
    (is_number 64 text ≡ true) × (magnitude ≡ min (digits_value 10 text) (2 ^ 128 - 1)))

-- z, or that it does not fit 128 bits with a sign
abbrev pub IsNumber : ℤ → Whole → Type 0
IsNumber z Not = ⊥
IsNumber z Far = 2 ^ 127 ≤ mag z
IsNumber z (Near value) = (value ≡ z) × (mag z < 2 ^ 127)

-- what reading a whole number gives: none, one too far out, or the number (private contracts)
abbrev pub IsReading : List ℕ → Whole → Type 0
IsReading text Not = is_whole text ≡ false
IsReading text Far = (is_whole text ≡ true) × IsNumber (whole_value text) Far
IsReading text (Near value) = (is_whole text ≡ true) × IsNumber (whole_value text) (Near value)
