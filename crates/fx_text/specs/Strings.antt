-- Quoted strings with escapes, as in MDL.
use Prim.Native.Char.{code}
use Rattle.std.specs.Prelude.{◌≡◌, ℕ, Bool, true, not, ◌==◌, ◌||◌, ◌&&◌, List, [], ◌∷◌, ◌++◌, Option, None, Some, IsTrue, if◌then◌else◌}
use Rattle.std.specs.List.{list_all, flat_map}

-- what begins and ends a string
abbrev pub quote_mark : ℕ
quote_mark = code "\""

-- what stands between two quotes: a byte for itself, or a backslash and the byte after it
pub data Char : Type 0 where
  Plain : ℕ → Char
  Escape : ℕ → Char

-- a quote or a backslash doesn't stand for itself
abbrev pub is_plain : ℕ → Bool
is_plain byte = not (byte == quote_mark) && not (byte == code "\\")

abbrev pub is_char : Char → Bool
is_char (Plain byte) = is_plain byte
is_char (Escape byte) = true

abbrev pub char_bytes : Char → List ℕ
char_bytes (Plain byte) = byte ∷ []
char_bytes (Escape byte) = code "\\" ∷ byte ∷ []

-- what a backslash and a byte say: `\n` a newline, `\t` a tab, `\"` a quote, `\\` a backslash, and
-- any other both bytes
abbrev pub escaped : ℕ → List ℕ
escaped byte =
    if byte == code "n" then code "\n" ∷ []
    else (if byte == code "t" then code "\t" ∷ []
    else (if byte == quote_mark || byte == code "\\" then byte ∷ []
    else code "\\" ∷ byte ∷ []))

-- what a character says
abbrev pub char_value : Char → List ℕ
char_value (Plain byte) = byte ∷ []
char_value (Escape byte) = escaped byte

-- a string with its quotes
abbrev pub quoted : List Char → List ℕ
quoted chars = quote_mark ∷ (flat_map char_bytes chars ++ quote_mark ∷ [])

-- behind an opening quote: a string that says `content`, its closing quote, and `rest`
pub record IsString (text content rest : List ℕ) : Type 0 where
  pub chars : List Char
  pub are_chars : IsTrue (list_all is_char chars)
  pub form : text ≡ flat_map char_bytes chars ++ quote_mark ∷ rest
  pub says : content ≡ flat_map char_value chars

abbrev pub prepend : List ℕ → Option (List ℕ × List ℕ) → Option (List ℕ × List ℕ)
prepend front None = None
prepend front (Some (content, rest)) = Some (front ++ content, rest)

-- what stands behind an opening quote: what the string says, and what follows its closing quote
abbrev pub string_behind : List ℕ → Option (List ℕ × List ℕ)
string_behind [] = None
string_behind (byte ∷ []) = if byte == quote_mark then Some ([], []) else None
string_behind (byte ∷ next ∷ text) =
    if byte == quote_mark then Some ([], next ∷ text)
    else if byte == code "\\" then prepend (escaped next) (string_behind text)
    else prepend (byte ∷ []) (string_behind (next ∷ text))
