-- Which bytes are a simple identifier (IEEE 1364-2005, 3.7).
use Prim.Native.Char.{code}
use Rattle.std.specs.Prelude.{ℕ, ◌==◌, Bool, false, not, ◌&&◌, ◌||◌, List, [], ◌∷◌, bytes_eq}
use Rattle.std.specs.List.{list_any, list_all}
use Rattle.std.specs.Char.{is_ascii_alphabetic, is_ascii_alphanumeric}
use Rattle.vl_names.specs.Reserved.{reserved}

-- a letter or an underscore
abbrev pub begins_name : ℕ → Bool
begins_name byte = is_ascii_alphabetic byte || byte == code "_"

-- a letter, a digit or an underscore
abbrev pub continues_name : ℕ → Bool
continues_name byte = is_ascii_alphanumeric byte || byte == code "_"

-- a letter or an underscore, and then letters, digits and underscores, but no reserved word
abbrev pub is_identifier : List ℕ → Bool
is_identifier [] = false
is_identifier (first ∷ others) =
    begins_name first && list_all continues_name others
    && not (list_any (bytes_eq (first ∷ others)) reserved)
