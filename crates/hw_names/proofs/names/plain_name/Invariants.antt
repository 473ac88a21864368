use Rattle.std.proofs.Common.{◌≡◌, ◌++◌, map, false}
use Rattle.std.specs.Prelude.{drop}
use Rattle.hw_names.specs.Names.{plain_byte, undoubled}
use Rattle.hw_names.proofs.names.plain_name.Given as goal

abbrev pub invariant-loop-byte : goal.invariant-loop-byte
invariant-loop-byte l = l.name.items ++ map plain_byte (undoubled l.is_second (drop l.byte-index l.path)) ≡ map plain_byte (undoubled false l.path)
