use Rattle.std.proofs.Common.{flat_map, take}
use Rattle.vl_ast.specs.Listing.{Lists}
use Rattle.vl_hier.specs.Flat.{port_wire}
use Rattle.vl_hier.proofs.items.put_wires.Given as goal

abbrev pub invariant-loop-port : goal.invariant-loop-port
invariant-loop-port l = Lists l.initial.out l.out (flat_map (port_wire l.head) (take l.port-index l.ports))
