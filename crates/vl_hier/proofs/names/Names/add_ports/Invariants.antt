use Rattle.std.proofs.Common.{◌++◌, ℕ, List, flat_map, take}
use Rattle.vl_hier.specs.inner.Names.{AreNames, port_names}
use Rattle.vl_hier.proofs.names.Names.add_ports.Given as goal

abbrev pub invariant-loop-port : goal.invariant-loop-port
invariant-loop-port l = (names : List (List ℕ)) → AreNames names l.fn.self → AreNames (names ++ flat_map port_names (take l.port-index l.ports)) l.self
