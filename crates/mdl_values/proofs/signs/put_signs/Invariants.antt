use Rattle.std.proofs.Common.{◌≡◌, drop}
use Rattle.mdl_values.specs.Signs.{with_signs, signs_of}
use Rattle.mdl_values.proofs.signs.put_signs.Given as goal

abbrev pub invariant-loop-byte : goal.invariant-loop-byte
invariant-loop-byte l = with_signs l.signs (signs_of (drop l.byte-index l.text)) ≡ signs_of l.text
