-- The plain division of bytes into lexemes: words and marks, each the longest there is (IEEE
-- 1364-2005, 3.1 to 3.7, as a plain division).
use Prim.Native.Char.{code}
use Rattle.std.specs.Prelude.{ℕ, not, ◌+◌, ◌*◌, ◌^◌, ◌==◌, nat_le, nat_lt, Bool, true, false, ◌&&◌, ◌||◌, if◌then◌else◌, List, [], ◌∷◌, ◌++◌, length, bytes_eq, codes, Option, Some, None, option_map, option_and_then}
use Rattle.std.specs.List.{prefix_len}
use Rattle.std.specs.Char.{is_ascii_alphanumeric, is_ascii_digit, digit_value}
use Rattle.vl_ast.specs.declared.expressions.Sized.{Sized}
use Rattle.vl_ast.specs.Tokens.{base_of, is_blank}
use Rattle.vl_names.specs.Identifiers.{is_identifier}
use Rattle.vl_read.specs.declared.scan.ByteClass.{ByteClass}
use Rattle.vl_read.specs.declared.scan.ByteClass.TheVariants.{OfWord, OfBlank, OfComment, OfMark, OfNone}
use Rattle.vl_read.specs.declared.scan.Mode.{Mode}
use Rattle.vl_read.specs.declared.scan.Mode.TheVariants.{Between, Word, Mark, Slash, LineComment, BlockComment, Star}
use Rattle.vl_read.specs.declared.scan.Kind.{Kind}
use Rattle.vl_read.specs.declared.scan.Kind.TheVariants.{Name, Count, Constant, Fixed}

-- a letter, a digit, `_`, `$` or `'`
abbrev pub is_word_byte : ℕ → Bool
is_word_byte byte =
    is_ascii_alphanumeric byte || byte == code "_" || byte == code "$" || byte == code "'"

-- one of ( ) [ ] { } , ; : . = @ ? + - * & | ^ ~ ! < >
abbrev pub is_mark_byte : ℕ → Bool
is_mark_byte byte =
    byte == code "(" || byte == code ")" || byte == code "[" || byte == code "]"
    || byte == code "{" || byte == code "}" || byte == code "," || byte == code ";"
    || byte == code ":" || byte == code "=" || byte == code "@" || byte == code "?"
    || byte == code "+" || byte == code "-" || byte == code "*" || byte == code "&"
    || byte == code "|" || byte == code "^" || byte == code "~" || byte == code "!"
    || byte == code "<" || byte == code ">" || byte == code "."

-- whether a byte is of a word, a blank, of a comment, of a mark, or none
unfoldable pub class_of : ℕ → ByteClass
class_of byte =
    if is_word_byte byte then OfWord
    else (if is_blank byte then OfBlank
    else (if byte == code "/" then OfComment
    else (if is_mark_byte byte then OfMark
    else OfNone)))

-- whether a mark and the byte after it are one mark, or the beginning of one
unfoldable pub extends : List ℕ → ℕ → Bool
extends mark byte =
    if byte == code "*" then bytes_eq mark (codes "(")
    else (if byte == code ")" then bytes_eq mark (codes "*")
    else (if byte == code "="
    then bytes_eq mark (codes "<") || bytes_eq mark (codes ">") || bytes_eq mark (codes "=")
    || bytes_eq mark (codes "!")
    else (if byte == code "<" then bytes_eq mark (codes "<")
    else (if byte == code ">" then bytes_eq mark (codes ">") || bytes_eq mark (codes ">>")
    else (if byte == code "&" then bytes_eq mark (codes "&")
    else (if byte == code "|" then bytes_eq mark (codes "|")
    else false))))))

-- a byte outside of comments that goes on with the lexeme before it
abbrev pub continues : Mode → ByteClass → List ℕ → ℕ → Bool
continues Word OfWord lexeme byte = true
continues Mark OfMark lexeme byte = extends lexeme byte
continues mode class lexeme byte = false

-- the lexeme that ends where a byte doesn't go on with it
abbrev pub ended : Mode → List ℕ → List (List ℕ)
ended Word lexeme = lexeme ∷ []
ended Mark lexeme = lexeme ∷ []
ended mode lexeme = []

-- what a byte gives: the lexemes that end before it, and what is begun after it
pub record Move : Type 0 where
  pub lexemes : List (List ℕ)
  pub mode : Mode
  pub lexeme : List ℕ

-- a move with these parts
abbrev pub moved : List (List ℕ) → Mode → List ℕ → Option Move
moved lexemes mode lexeme = Some (record { lexemes = lexemes; mode = mode; lexeme = lexeme })

-- a byte outside of comments that goes on with nothing
abbrev pub begin : List (List ℕ) → ByteClass → ℕ → Option Move
begin lexemes OfWord byte = moved lexemes Word (byte ∷ [])
begin lexemes OfBlank byte = moved lexemes Between []
begin lexemes OfComment byte = moved lexemes Slash []
begin lexemes OfMark byte = moved lexemes Mark (byte ∷ [])
begin lexemes OfNone byte = None

-- a byte outside of comments
abbrev pub outside : Mode → List ℕ → ByteClass → ℕ → Option Move
outside mode lexeme class byte =
    if continues mode class lexeme byte then moved [] mode (lexeme ++ byte ∷ [])
    else begin (ended mode lexeme) class byte

-- what a byte gives in each mode
abbrev pub move : Mode → List ℕ → ℕ → Option Move
move Between lexeme byte = outside Between lexeme (class_of byte) byte
move Word lexeme byte = outside Word lexeme (class_of byte) byte
move Mark lexeme byte = outside Mark lexeme (class_of byte) byte
move Slash lexeme byte =
    if byte == code "/" then moved [] LineComment []
    else (if byte == code "*" then moved [] BlockComment [] else None)
move LineComment lexeme byte =
    if byte == code "\n" then moved [] Between [] else moved [] LineComment []
move BlockComment lexeme byte =
    if byte == code "*" then moved [] Star [] else moved [] BlockComment []
move Star lexeme byte =
    if byte == code "/" then moved [] Between []
    else (if byte == code "*" then moved [] Star [] else moved [] BlockComment [])

-- the lexemes that end with the text
abbrev pub last_lexemes : Mode → List ℕ → Option (List (List ℕ))
last_lexemes Between lexeme = Some []
last_lexemes Word lexeme = Some (lexeme ∷ [])
last_lexemes Mark lexeme = Some (lexeme ∷ [])
last_lexemes Slash lexeme = None
last_lexemes LineComment lexeme = Some []
last_lexemes BlockComment lexeme = None
last_lexemes Star lexeme = None

-- the lexemes of the bytes, where this mode and lexeme stand before them
abbrev pub lexemes_from : Mode → List ℕ → List ℕ → Option (List (List ℕ))
lexemes_from mode lexeme [] = last_lexemes mode lexeme
lexemes_from mode lexeme (byte ∷ bytes) =
    option_and_then
    (λ next. option_map (λ more. next.lexemes ++ more)
    (lexemes_from next.mode next.lexeme bytes)) (move mode lexeme byte)

-- a digit of the base; those above 9 are small letters or capitals
abbrev pub is_digit : ℕ → ℕ → Bool
is_digit base byte = nat_lt (digit_value byte) base

-- the number of digits in a base that follow those of another number, where it is below 2 ^ 128
abbrev pub number_after : ℕ → ℕ → List ℕ → Option ℕ
number_after base number [] = Some number
number_after base number (byte ∷ bytes) =
    if is_digit base byte && nat_lt (number * base + digit_value byte) (2 ^ 128)
    then number_after base (number * base + digit_value byte) bytes
    else None

-- at least one byte
abbrev pub is_nonempty : List ℕ → Bool
is_nonempty [] = false
is_nonempty (byte ∷ bytes) = true

-- one to nine decimal digits
unfoldable pub dec_of : List ℕ → Option ℕ
dec_of digits =
    if is_nonempty digits && nat_le (length digits) 9 then number_after 10 0 digits else None

-- what stands before the first apostrophe, and what after it
abbrev pub around_quote : List ℕ → Option (List ℕ × List ℕ)
around_quote [] = None
around_quote (byte ∷ bytes) =
    if byte == code "'" then Some ([], bytes)
    else option_map (λ parts. (byte ∷ parts.0, parts.1)) (around_quote bytes)

-- a based number of these parts, where its digits have a number
abbrev pub sized_as : ℕ → Bool → Option ℕ → Option Sized
sized_as width signed None = None
sized_as width signed (Some number) =
    Some (record { width = width; signed = signed; bits = number })

-- one to 128 digits
abbrev pub sized_by : ℕ → Bool → ℕ → List ℕ → Option Sized
sized_by width signed base digits =
    if is_nonempty digits && nat_le (length digits) 128
    then sized_as width signed (number_after base 0 digits) else None

-- after the mark of a signed number
abbrev pub sized_after : ℕ → Bool → List ℕ → Option Sized
sized_after width signed [] = None
sized_after width signed (letter ∷ digits) =
    option_and_then (λ base. sized_by width signed base digits) (base_of letter)

-- after the apostrophe
abbrev pub sized_in : ℕ → List ℕ → Option Sized
sized_in width [] = None
sized_in width (byte ∷ bytes) =
    if byte == code "s" || byte == code "S" then sized_after width true bytes
    else sized_after width false (byte ∷ bytes)

-- how many bytes stand before the first apostrophe
abbrev pub quote_place : List ℕ → ℕ
quote_place = prefix_len (λ byte. not (byte == code "'"))

-- a number with its width and its base
unfoldable pub sized_of : List ℕ → Option Sized
sized_of bytes =
    option_and_then (λ parts. option_and_then (λ width. sized_in width parts.1) (dec_of parts.0))
    (around_quote bytes)

-- a number, a number with a base, or a word as it stands
abbrev pub kind_by : Option ℕ → Option Sized → Kind
kind_by (Some number) sized = Count number
kind_by None (Some number) = Constant number
kind_by None None = Fixed

-- it begins with a decimal digit
abbrev pub begins_number : List ℕ → Bool
begins_number [] = false
begins_number (byte ∷ bytes) = is_ascii_digit byte

-- what a lexeme may be
unfoldable pub kind_of : List ℕ → Kind
kind_of lexeme = if is_identifier lexeme then Name else kind_by (dec_of lexeme) (sized_of lexeme)
