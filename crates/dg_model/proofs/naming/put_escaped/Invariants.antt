use Rattle.std.proofs.Common.{◌≡◌, ◌++◌, take}
use Rattle.dg_model.specs.Naming.{escaped}
use Rattle.dg_model.proofs.naming.put_escaped.Given as goal

abbrev pub invariant-loop-byte : goal.invariant-loop-byte
invariant-loop-byte l = l.path.items ≡ l.initial.path.items ++ escaped (take l.byte-index l.name)
