use Rattle.std.proofs.Common.{◌≡◌, drop}
use Rattle.std.specs.List.{list_all}
use Rattle.mdl_text.specs.Bytes.{is_blank}
use Rattle.mdl_text.proofs.scan.are_blanks.Given as goal

abbrev pub invariant-loop-byte : goal.invariant-loop-byte
invariant-loop-byte l = list_all is_blank (drop l.byte-index l.bytes) ≡ list_all is_blank l.bytes
