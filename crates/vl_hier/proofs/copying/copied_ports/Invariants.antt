use Rattle.std.proofs.Common.{map, take}
use Rattle.vl_ast.specs.declared.modules.Port.{Port}
use Rattle.vl_ast.specs.Listing.{Holds}
use Rattle.vl_hier.proofs.copying.copied_ports.Given as goal

abbrev pub invariant-loop-port : goal.invariant-loop-port
invariant-loop-port l = Holds l.out (map (λ (x : Port). x) (take l.port-index l.ports))
