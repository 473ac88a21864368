-- Decimals as text: an optional sign, digits with at most one point and at least one digit, and
-- then, after `e` or `E`, an optional sign and one or two digits. `true` is 1, and `false` is 0
-- (own).
use Rattle.std.specs.Prelude.{◌≡◌, ℕ, ◌^◌, ◌<◌, ◌≤◌, Bool, true, false, List, [], ◌++◌, length, ℤ, pos, negsuc, ◌-ℤ◌, neg_ℤ, ◌≤ℤ◌, codes, ◌⊎◌, IsTrue}
use Rattle.std.specs.List.{list_all}
use Rattle.std.specs.Char.{is_ascii_digit}
use Rattle.std.specs.Str.Parse.{digits_value}
use Rattle.fx_type.specs.declared.decimal.Decimal.{Decimal}

-- digits alone, or nothing
abbrev pub AreDigits : List ℕ → Type 0
AreDigits text = IsTrue (list_all is_ascii_digit text)

-- `-` where the number is negative, and else `+` or nothing
abbrev pub IsSign : List ℕ → Bool → Type 0
IsSign text true = text ≡ codes "-"
IsSign text false = (text ≡ []) ⊎ (text ≡ codes "+")

-- n with its sign
abbrev pub signed : Bool → ℕ → ℤ
signed true n = neg_ℤ (pos n)
signed false n = pos n

-- a point and the digits behind it, or nothing
abbrev pub IsFraction : List ℕ → List ℕ → Type 0
IsFraction text digits = (text ≡ codes "." ++ digits) ⊎ ((text ≡ []) × (digits ≡ []))

-- `e` or `E`, a sign, and one or two digits
pub record IsWrittenExponent (text : List ℕ) (exponent : ℤ) : Type 0 where
  pub mark : List ℕ
  pub sign : List ℕ
  pub digits : List ℕ
  pub negative : Bool
  pub form : text ≡ mark ++ (sign ++ digits)
  pub is_mark : (mark ≡ codes "e") ⊎ (mark ≡ codes "E")
  pub is_sign : IsSign sign negative
  pub are_digits : AreDigits digits
  pub some_digit : 1 ≤ length digits
  pub few_digits : length digits ≤ 2
  pub value : exponent ≡ signed negative (digits_value 10 digits)

-- an exponent, or nothing, which is the exponent 0
abbrev pub IsExponent : List ℕ → ℤ → Type 0
IsExponent text exponent = IsWrittenExponent text exponent ⊎ ((text ≡ []) × (exponent ≡ pos 0))

-- the text is a number: a sign, digits, a point with digits behind it, and an exponent; `digits` is
-- all digits as one number
pub record IsNumeral (text : List ℕ) : Type 0 where
  pub sign : List ℕ
  pub negative : Bool
  pub whole : List ℕ
  pub point : List ℕ
  pub fraction : List ℕ
  pub digits : ℕ
  pub written : List ℕ
  pub exponent : ℤ
  pub form : text ≡ sign ++ (whole ++ (point ++ written))
  pub is_sign : IsSign sign negative
  pub are_digits : AreDigits (whole ++ fraction)
  pub some_digit : 1 ≤ length (whole ++ fraction)
  pub value : digits ≡ digits_value 10 (whole ++ fraction)
  pub is_fraction : IsFraction point fraction
  pub is_exponent : IsExponent written exponent

-- at most 18 digits behind the leading zeros, which is a number below 10 to the power 18; at most
-- 18 behind the point; an exponent of at most 18 either way
pub record IsShort (digits behind : ℕ) (exponent : ℤ) : Type 0 where
  pub few_digits : digits < 10 ^ 18
  pub few_behind : behind ≤ 18
  pub least : negsuc 17 ≤ℤ exponent
  pub greatest : exponent ≤ℤ pos 18

-- d is the number that the text is
pub record IsDecimalOf (text : List ℕ) (d : Decimal) : Type 0 where
  pub numeral : IsNumeral text
  pub short : IsShort numeral.digits (length numeral.fraction) numeral.exponent
  pub negative : d.negative ≡ numeral.negative
  pub digits : d.digits ≡ numeral.digits
  pub exponent : d.exponent ≡ numeral.exponent -ℤ pos (length numeral.fraction)

-- the text is a number that is too long
pub record IsLong (text : List ℕ) : Type 0 where
  pub numeral : IsNumeral text
  pub long : ¬ IsShort numeral.digits (length numeral.fraction) numeral.exponent

-- a word, or a number
abbrev pub IsDecimalText : List ℕ → Type 0
IsDecimalText text = (text ≡ codes "true") ⊎ ((text ≡ codes "false") ⊎ IsNumeral text)

-- the whole number n, as a decimal
pub record IsWhole (d : Decimal) (n : ℕ) : Type 0 where
  pub negative : d.negative ≡ false
  pub digits : d.digits ≡ n
  pub exponent : d.exponent ≡ pos 0

-- d is what the text says
abbrev pub IsDecimal : List ℕ → Decimal → Type 0
IsDecimal text d =
    ((text ≡ codes "true") × IsWhole d 1)
    ⊎ (((text ≡ codes "false") × IsWhole d 0) ⊎ IsDecimalOf text d)
