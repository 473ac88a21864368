-- What a value says so far.
use Rattle.std.specs.Prelude.{ℕ, List}
use Rattle.mdl_text.specs.declared.said.Stored.{Stored}
use Rattle.mdl_text.specs.declared.said.Stored.TheVariants.{Lent, Gathered}

-- the bytes, lent or gathered
abbrev pub stored_bytes : Stored → List ℕ
stored_bytes (Lent piece) = piece
stored_bytes (Gathered bytes) = bytes.items
