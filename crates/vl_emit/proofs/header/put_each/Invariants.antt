use Rattle.std.proofs.Common.{map, take}
use Rattle.vl_ast.specs.Listing.{Lists}
use Rattle.vl_emit.specs.inner.Ready.{port_of}
use Rattle.vl_emit.proofs.header.put_each.Given as goal

abbrev pub invariant-loop-port : goal.invariant-loop-port
invariant-loop-port l = Lists l.initial.out l.out (map (port_of l.input l.netlist) (take l.port-index l.own))
