-- The fields of a line. Its lines are std's `lines`: each ends with a newline, which the last may
-- lack, and a carriage return right before the newline is not of the line (own).
use Prim.Native.Char.{code}
use Rattle.std.specs.Prelude.{ℕ, Bool, true, false, List, [], ◌∷◌, ◌==◌, ◌||◌, if◌then◌else◌, filter}
use Rattle.std.specs.List.{slice_split}

-- a space or a tab
abbrev pub is_blank : ℕ → Bool
is_blank b = b == code " " || b == code "\t"

-- the line from its first byte that is no blank
abbrev pub after_blanks : List ℕ → List ℕ
after_blanks [] = []
after_blanks (b ∷ line) = if is_blank b then after_blanks line else b ∷ line

-- at least one byte
abbrev pub is_run : List ℕ → Bool
is_run [] = false
is_run (b ∷ bytes) = true

-- the longest runs of a line's bytes that are no blanks
abbrev pub fields_of : List ℕ → List (List ℕ)
fields_of line = filter is_run (slice_split is_blank line)
