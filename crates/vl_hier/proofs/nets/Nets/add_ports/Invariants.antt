use Rattle.std.proofs.Common.{◌++◌, List, flat_map, take}
use Rattle.vl_ast.specs.Nets.{Declared}
use Rattle.vl_hier.specs.inner.Nets.{AreNets, port_declared}
use Rattle.vl_hier.proofs.nets.Nets.add_ports.Given as goal

abbrev pub invariant-loop-port : goal.invariant-loop-port
invariant-loop-port l = (declared : List Declared) → AreNets declared l.fn.self → AreNets (declared ++ flat_map port_declared (take l.port-index l.ports)) l.self
