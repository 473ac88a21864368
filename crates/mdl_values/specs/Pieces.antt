-- How a value is cut: at separators, at blanks and in brackets (own).
use Prim.Native.Char.{code}
use Rattle.std.specs.Prelude.{ℕ, Bool, false, not, ◌==◌, List, [], ◌∷◌, ◌++◌, length, Option, None, Some, nat_lt, if◌then◌else◌}
use Rattle.std.specs.List.{list_any}
use Rattle.mdl_text.specs.Bytes.{is_blank, on_first}

-- any byte but the separator
abbrev pub is_other : ℕ → ℕ → Bool
is_other separator byte = not (byte == separator)

-- the pieces between separators, so one more than there are separators
abbrev pub pieces_at : ℕ → List ℕ → List (List ℕ)
pieces_at separator [] = [] ∷ []
pieces_at separator (byte ∷ bytes) =
    if is_other separator byte then on_first byte (pieces_at separator bytes)
    else [] ∷ pieces_at separator bytes

-- no blank
abbrev pub is_solid : ℕ → Bool
is_solid byte = not (is_blank byte)

-- a byte of a word stands first
abbrev pub goes_on : List ℕ → Bool
goes_on [] = false
goes_on (byte ∷ bytes) = is_solid byte

-- the byte in front of the word that it touches, or as a word of its own
abbrev pub on_word : Bool → ℕ → List (List ℕ) → List (List ℕ)
on_word touches byte words = if touches then on_first byte words else (byte ∷ []) ∷ words

-- the words between blanks
abbrev pub words_of : List ℕ → List (List ℕ)
words_of [] = []
words_of (byte ∷ bytes) =
    if is_solid byte then on_word (goes_on bytes) byte (words_of bytes) else words_of bytes

-- the text from its first word on
abbrev pub unblanked : List ℕ → List ℕ
unblanked [] = []
unblanked (byte ∷ bytes) = if is_solid byte then byte ∷ bytes else unblanked bytes

-- elements are separated by semicolons throughout, or by commas and blanks
abbrev pub separator_of : List ℕ → ℕ
separator_of text = if list_any (λ byte. byte == code ";") text then code ";" else code ","

-- between semicolons stands one word, between commas one or more
abbrev pub may_stand : ℕ → ℕ → Bool
may_stand separator words = if separator == code ";" then words == 1 else nat_lt 0 words

-- these words and those after them
abbrev pub with_words : List (List ℕ) → Option (List (List ℕ)) → Option (List (List ℕ))
with_words words None = None
with_words words (Some more) = Some (words ++ more)

-- the words of all pieces, if each has as many as it may
abbrev pub joined : ℕ → List (List ℕ) → Option (List (List ℕ))
joined separator [] = Some []
joined separator (piece ∷ pieces) =
    if may_stand separator (length (words_of piece))
    then with_words (words_of piece) (joined separator pieces) else None

-- the elements of what stands in brackets
abbrev pub elements_of : List ℕ → Option (List (List ℕ))
elements_of text = joined (separator_of text) (pieces_at (separator_of text) text)

-- two pieces and no more
abbrev pub two_of : List (List ℕ) → Option (List ℕ × List ℕ)
two_of [] = None
two_of (first ∷ []) = None
two_of (first ∷ second ∷ []) = Some (first, second)
two_of (first ∷ second ∷ third ∷ more) = None

-- an opening bracket stands first
abbrev pub opens : List ℕ → Bool
opens [] = false
opens (byte ∷ bytes) = byte == code "["

-- what stands behind an opening bracket before the only closing one, and what follows that
abbrev pub bracketed : List ℕ → Option (List ℕ × List ℕ)
bracketed [] = None
bracketed (byte ∷ bytes) = if byte == code "[" then two_of (pieces_at (code "]") bytes) else None

-- the elements of what stands in brackets, where nothing follows
abbrev pub only_inside : Option (List ℕ × List ℕ) → Option (List (List ℕ))
only_inside None = None
only_inside (Some (inside, [])) = elements_of inside
only_inside (Some (inside, byte ∷ bytes)) = None

-- the elements in the brackets that the text is
abbrev pub bracket_elements : List ℕ → Option (List (List ℕ))
bracket_elements text = only_inside (bracketed text)

-- the elements of what stands in brackets, where these words follow
abbrev pub inside_before : List ℕ → List (List ℕ) → Option (List (List ℕ))
inside_before inside [] = elements_of inside
inside_before inside (word ∷ words) = None

-- the elements of what stands in brackets, where no more than blanks follow
abbrev pub inside_and_blanks : Option (List ℕ × List ℕ) → Option (List (List ℕ))
inside_and_blanks None = None
inside_and_blanks (Some (inside, after)) = inside_before inside (words_of after)

-- one word alone
abbrev pub alone : List (List ℕ) → Option (List (List ℕ))
alone [] = None
alone (word ∷ []) = Some (word ∷ [])
alone (word ∷ other ∷ more) = None

-- the elements of a list: those in its brackets, or the one that it is; blanks around are passed
-- over
abbrev pub list_elements : List ℕ → Option (List (List ℕ))
list_elements text =
    if opens (unblanked text) then inside_and_blanks (bracketed (unblanked text))
    else alone (words_of text)
