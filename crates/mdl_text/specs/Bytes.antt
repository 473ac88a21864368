-- Bytes of a text, its lines, and the strings and brackets in them (own).
use Prim.Native.Char.{code}
use Rattle.std.specs.Prelude.{◌≡◌, ◌≢◌, ℕ, zero, suc, Bool, ◌==◌, ◌||◌, List, [], ◌∷◌, ◌++◌, IsTrue, if◌then◌else◌}
use Rattle.std.specs.Char.{is_ascii_digit, is_ascii_alphabetic}
use Rattle.std.specs.List.{list_all, flat_map, AllByRecursion}
use Rattle.fx_io.specs.FaultLine.{IsOneLine}
use Rattle.fx_text.specs.Strings.{Char, is_char, char_value, quoted}

-- a space, a tab or a carriage return
unfoldable pub is_blank : ℕ → Bool
is_blank byte = byte == code " " || byte == code "\t" || byte == code "\r"

-- a letter, a digit, `_`, `.` or `$`
unfoldable pub is_name_byte : ℕ → Bool
is_name_byte byte =
    is_ascii_alphabetic byte || is_ascii_digit byte || byte == code "_" || byte == code "."
    || byte == code "$"

-- blanks alone, or nothing
abbrev pub AreBlanks : List ℕ → Type 0
AreBlanks bytes = IsTrue (list_all is_blank bytes)

-- one or more name bytes
pub record IsName (bytes : List ℕ) : Type 0 where
  pub nonempty : bytes ≢ []
  pub each : IsTrue (list_all is_name_byte bytes)

-- the byte put in front of the first line
abbrev pub on_first : ℕ → List (List ℕ) → List (List ℕ)
on_first byte [] = (byte ∷ []) ∷ []
on_first byte (line ∷ lines) = (byte ∷ line) ∷ lines

-- the pieces between newlines, so one more than there are newlines
abbrev pub lines_of : List ℕ → List (List ℕ)
lines_of [] = [] ∷ []
lines_of (byte ∷ bytes) =
    if byte == code "\n" then [] ∷ lines_of bytes else on_first byte (lines_of bytes)

-- a quoted string and the blanks after it
pub record Quote : Type 0 where
  pub chars : List Char
  pub after : List ℕ

-- a quoted string and blanks, each sound
pub record IsQuote (quote : Quote) : Type 0 where
  pub chars : IsTrue (list_all is_char quote.chars)
  pub after : AreBlanks quote.after

-- its bytes
abbrev pub quote_bytes : Quote → List ℕ
quote_bytes quote = quoted quote.chars ++ quote.after

-- what it says
abbrev pub quote_value : Quote → List ℕ
quote_value quote = flat_map char_value quote.chars

-- one or more quoted strings with blanks between them and after; their value is all of them joined
pub record AreStrings (bytes value : List ℕ) : Type 0 where
  pub quotes : List Quote
  pub nonempty : quotes ≢ []
  pub each : AllByRecursion IsQuote quotes
  pub form : bytes ≡ flat_map quote_bytes quotes
  pub joined : value ≡ flat_map quote_value quotes

-- what stands in a list: a bracket that opens or closes, a string, or any other byte
pub data Piece : Type 0 where
  Opening : Piece
  Closing : Piece
  String : List Char → Piece
  Other : ℕ → Piece

-- the bytes of a piece
abbrev pub piece_bytes : Piece → List ℕ
piece_bytes Opening = code "[" ∷ []
piece_bytes Closing = code "]" ∷ []
piece_bytes (String chars) = quoted chars
piece_bytes (Other byte) = byte ∷ []

-- the pieces close so many open brackets and one more, that one by the last piece and not before;
-- each string stands on one line
abbrev pub Closes : ℕ → List Piece → Type 0
Closes nesting [] = ⊥
Closes nesting (Opening ∷ pieces) = Closes (suc nesting) pieces
Closes zero (Closing ∷ pieces) = pieces ≡ []
Closes (suc nesting) (Closing ∷ pieces) = Closes nesting pieces
Closes nesting (String chars ∷ pieces) =
    IsTrue (list_all is_char chars) × IsOneLine (quoted chars) × Closes nesting pieces
Closes nesting (Other byte ∷ pieces) =
    (byte ≢ code "\"") × (byte ≢ code "[") × (byte ≢ code "]") × Closes nesting pieces

-- a list: its first bracket, and the pieces up to the bracket that closes it
pub record IsList (value : List ℕ) : Type 0 where
  pub pieces : List Piece
  pub closes : Closes 0 pieces
  pub form : value ≡ code "[" ∷ flat_map piece_bytes pieces
