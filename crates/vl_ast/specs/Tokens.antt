-- The tokens of a text: how each may be written, and what may stand between them (IEEE 1364-2005,
-- 3.1 to 3.7, of which the subset keeps these forms).
use Prim.Native.Char.{code}
use Rattle.std.specs.Prelude.{◌≡◌, ◌≢◌, ◌⊎◌, ℕ, ◌^◌, ◌<◌, ◌≤◌, ◌==◌, nat_le, nat_eq, ⊤, Bool, true, false, not, ◌&&◌, ◌||◌, if◌then◌else◌, List, [], ◌∷◌, ◌++◌, length, flat_map, All, Contains, codes, Option, Some, None}
use Rattle.std.specs.List.{list_all, starts_with}
use Rattle.std.specs.Str.Parse.{IsNumeral, digits_value}
use Rattle.vl_ast.specs.declared.expressions.Sized.{Sized}
use Rattle.vl_names.specs.Identifiers.{is_identifier}

-- a key word, a sign, an identifier, a number or a based number
pub data Token : Type 0 where
  -- a word that is written as it stands
  Key : List ℕ → Token
  -- an operator, a bracket or a separator
  Sign : List ℕ → Token
  Identifier : List ℕ → Token
  -- a number without base
  Number : ℕ → Token
  -- a number with its width and its base
  Based : Sized → Token

-- any token but a sign
abbrev pub is_word : Token → Bool
is_word (Key bytes) = true
is_word (Sign bytes) = false
is_word (Identifier name) = true
is_word (Number number) = true
is_word (Based number) = true

-- the signs of more than one byte
abbrev pub long_signs : List (List ℕ)
long_signs =
    codes "(*" ∷ codes "*)" ∷ codes "<=" ∷ codes ">=" ∷ codes "==" ∷ codes "!=" ∷ codes "<<"
    ∷ codes ">>" ∷ codes ">>>"
    ∷ codes "&&" ∷ codes "||" ∷ []

-- whether no longer sign begins where this one does, before these bytes
abbrev pub is_longest : List ℕ → List ℕ → Bool
is_longest sign after =
    list_all (λ longer. nat_le (length longer) (length sign)
    || not (starts_with nat_eq (sign ++ after) longer)) long_signs

-- one to nine decimal digits
pub record IsDec (number : ℕ) (digits : List ℕ) : Type 0 where
  pub numeral : IsNumeral 10 digits
  pub short : length digits ≤ 9
  pub value : digits_value 10 digits ≡ number

-- the base that a letter names: b, d or h, or a capital
abbrev pub base_of : ℕ → Option ℕ
base_of letter =
    if letter == code "b" || letter == code "B" then Some 2
    else (if letter == code "d" || letter == code "D" then Some 10
    else (if letter == code "h" || letter == code "H" then Some 16 else None))

-- `s` or `S` for a signed number, and else nothing
abbrev pub IsSignMark : Bool → List ℕ → Type 0
IsSignMark true mark = (mark ≡ codes "s") ⊎ (mark ≡ codes "S")
IsSignMark false mark = mark ≡ []

-- the width, an apostrophe, the mark of a signed number, the letter of a base, and one to 128
-- digits in it, of a number below 2 ^ 128
pub record IsBased (number : Sized) (bytes : List ℕ) : Type 0 where
  pub width : List ℕ
  pub mark : List ℕ
  pub letter : ℕ
  pub base : ℕ
  pub digits : List ℕ
  pub text : bytes ≡ width ++ codes "'" ++ mark ++ letter ∷ digits
  pub width_is : IsDec number.width width
  pub mark_is : IsSignMark number.signed mark
  pub base_is : base_of letter ≡ Some base
  pub numeral : IsNumeral base digits
  pub short : length digits ≤ 128
  pub value : digits_value base digits ≡ number.bits
  pub fits : number.bits < 2 ^ 128

-- the bytes are a way to write the token
abbrev pub IsWritten : Token → List ℕ → Type 0
IsWritten (Key word) bytes = bytes ≡ word
IsWritten (Sign sign) bytes = bytes ≡ sign
IsWritten (Identifier name) bytes = (bytes ≡ name) × (is_identifier name ≡ true)
IsWritten (Number number) bytes = IsDec number bytes
IsWritten (Based number) bytes = IsBased number bytes

-- the token can be written, and so can each of a list
abbrev pub IsWritable : Token → Type 0
IsWritable token = (bytes : List ℕ) × IsWritten token bytes

-- each of the tokens can be written (own)
abbrev pub AreWritable : List Token → Type 0
AreWritable [] = ⊤
AreWritable (token ∷ tokens) = IsWritable token × AreWritable tokens

-- a part of what stands between tokens
pub data Filler : Type 0 where
  Blank : ℕ → Filler
  LineComment : List ℕ → Filler
  BlockComment : List ℕ → Filler

-- the bytes of a blank or a comment
abbrev pub filler_text : Filler → List ℕ
filler_text (Blank byte) = byte ∷ []
filler_text (LineComment body) = codes "//" ++ body ++ codes "\n"
filler_text (BlockComment body) = codes "/*" ++ body ++ codes "*/"

-- a space, a tab, a newline, a form feed or a carriage return
abbrev pub is_blank : ℕ → Bool
is_blank byte =
    byte == code " " || byte == code "\t" || byte == code "\n" || byte == code "\u{c}"
    || byte == code "\r"

-- no newline among the bytes
abbrev pub IsOneLine : List ℕ → Type 0
IsOneLine body = ¬ Contains body (code "\n")

-- the blank or comment is sound
abbrev pub IsFiller : Filler → Type 0
IsFiller (Blank byte) = is_blank byte ≡ true
IsFiller (LineComment body) = IsOneLine body
IsFiller (BlockComment body) = (before after : List ℕ) → body ≢ before ++ codes "*/" ++ after

-- blanks and comments
abbrev pub IsGap : List ℕ → Type 0
IsGap bytes =
    (fillers : List Filler) × All IsFiller fillers × (bytes ≡ flat_map filler_text fillers)

-- the same at the end of the text, where a comment to the end of the line may lack its newline
abbrev pub IsLastGap : List ℕ → Type 0
IsLastGap bytes =
    IsGap bytes
    ⊎ ((gap : List ℕ) × (body : List ℕ) × IsGap gap × IsOneLine body
    × (bytes ≡ gap ++ codes "//" ++ body))

-- the longest token is taken
abbrev pub IsLongest : Token → List ℕ → Type 0
IsLongest (Key word) after = ⊤
IsLongest (Sign sign) after = is_longest sign after ≡ true
IsLongest (Identifier name) after = ⊤
IsLongest (Number number) after = ⊤
IsLongest (Based number) after = ⊤

-- the bytes are the tokens, with gaps between them, before the first and after the last; two words
-- have one that isn't empty. The first argument says whether a word stands before
abbrev pub Lays : Bool → List Token → List ℕ → Type 0
Lays after_word [] bytes = IsLastGap bytes
Lays after_word (token ∷ tokens) bytes =
    (gap : List ℕ) × (written : List ℕ) × (rest : List ℕ) × IsGap gap
    × ((after_word && is_word token) ≡ true → gap ≢ [])
    × IsWritten token written × IsLongest token rest × Lays (is_word token) tokens rest
    × (bytes ≡ gap ++ written ++ rest)
