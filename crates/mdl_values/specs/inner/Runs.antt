-- Bytes of one sort from the front on.
use Rattle.std.specs.Prelude.{ℕ, Bool, true, false}
use Rattle.mdl_text.specs.Bytes.{is_blank}
use Rattle.mdl_values.specs.Pieces.{is_solid}

-- a byte of a word, or a blank
abbrev pub is_of : Bool → ℕ → Bool
is_of true = is_solid
is_of false = is_blank
