-- The plain reading of a decimal, cut by cut, which private contracts cite.
use Prim.Native.Char.{code}
use Rattle.std.specs.Prelude.{ℕ, ◌+◌, ◌-◌, ◌*◌, ◌==◌, Bool, false, ◌&&◌, ◌||◌, if◌then◌else◌, List, [], ◌∷◌, Option, Some, None, ℤ, pos}
use Rattle.std.specs.Char.{is_ascii_digit}
use Rattle.std.specs.Str.Parse.{digits_value_after}
use Rattle.fx_round.specs.DecimalText.{signed, IsNumeral, IsLong}
use Rattle.fx_round.specs.declared.decimal.DecimalFault.{DecimalFault}
use Rattle.fx_round.specs.declared.decimal.DecimalFault.TheVariants.{NotANumber, TooLong}

-- the digits that the text begins with
abbrev pub front_digits : List ℕ → List ℕ
front_digits [] = []
front_digits (c ∷ cs) = if is_ascii_digit c then c ∷ front_digits cs else []

-- what follows the digits that the text begins with
abbrev pub after_digits : List ℕ → List ℕ
after_digits [] = []
after_digits (c ∷ cs) = if is_ascii_digit c then after_digits cs else c ∷ cs

-- whether the text begins with a minus sign
abbrev pub is_minus : List ℕ → Bool
is_minus [] = false
is_minus (c ∷ cs) = c == code "-"

-- what follows the sign, where there is one
abbrev pub after_sign : List ℕ → List ℕ
after_sign [] = []
after_sign (c ∷ cs) = if (c == code "+") || (c == code "-") then cs else c ∷ cs

-- the digits behind a point; where there is no point, none
abbrev pub fraction_digits : List ℕ → List ℕ
fraction_digits [] = []
fraction_digits (c ∷ cs) = if c == code "." then front_digits cs else []

-- what follows a point and its digits; where there is no point, the text
abbrev pub after_fraction : List ℕ → List ℕ
after_fraction [] = []
after_fraction (c ∷ cs) = if c == code "." then after_digits cs else c ∷ cs

-- the number that one or two digits are
abbrev pub one_or_two : List ℕ → Option ℕ
one_or_two [] = None
one_or_two (a ∷ []) = if is_ascii_digit a then Some (a - code "0") else None
one_or_two (a ∷ b ∷ []) =
    if is_ascii_digit a && is_ascii_digit b then Some ((a - code "0") * 10 + (b - code "0"))
    else None
one_or_two (a ∷ b ∷ c ∷ cs) = None

-- the number with its sign, where there is one
abbrev pub signed_some : Bool → Option ℕ → Option ℤ
signed_some negative None = None
signed_some negative (Some n) = Some (signed negative n)

-- the exponent that a text is: 0 where it is empty, and nothing where it is none
abbrev pub exponent_of : List ℕ → Option ℤ
exponent_of [] = Some (pos 0)
exponent_of (c ∷ cs) =
    if (c == code "e") || (c == code "E")
    then signed_some (is_minus cs) (one_or_two (after_sign cs)) else None

-- the digits before the point
abbrev pub whole_digits : List ℕ → List ℕ
whole_digits text = front_digits (after_sign text)

-- the digits behind the point
abbrev pub fraction_of : List ℕ → List ℕ
fraction_of text = fraction_digits (after_digits (after_sign text))

-- all digits of the text as one number
abbrev pub all_digits : List ℕ → ℕ
all_digits text =
    digits_value_after 10 (digits_value_after 10 0 (whole_digits text)) (fraction_of text)

-- why a text that is no word is refused
abbrev pub Explains : List ℕ → DecimalFault → Type 0
Explains text NotANumber = ¬ IsNumeral text
Explains text TooLong = IsLong text
