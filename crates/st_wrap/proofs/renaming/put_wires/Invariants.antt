use Rattle.std.proofs.Common.{flat_map, take}
use Rattle.vl_ast.specs.Listing.{Lists}
use Rattle.st_wrap.specs.inner.CoreNames.{wires_for}
use Rattle.st_wrap.proofs.renaming.put_wires.Given as goal

abbrev pub invariant-loop-port : goal.invariant-loop-port
invariant-loop-port l = Lists l.initial.out l.out (flat_map wires_for (take l.port-index l.core.ports))
