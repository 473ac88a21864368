-- The bytes of a text, wherever they stand.
use Rattle.std.specs.Prelude.{ℕ, ◌≤◌, List, take}
use Rattle.fx_io.specs.declared.text.Held.{Held}
use Rattle.fx_io.specs.declared.text.Held.TheVariants.{Short, Long}

abbrev pub held_bytes : Held → List ℕ
held_bytes (Short length bytes) = take length bytes
held_bytes (Long bytes) = bytes.value.items

abbrev pub IsHeld : Held → Type 0
IsHeld (Short length bytes) = length ≤ 22
IsHeld (Long bytes) = Unit {0}
