use Rattle.std.proofs.Common.{map, take}
use Rattle.vl_ast.specs.declared.modules.Port.{Port}
use Rattle.vl_hier.specs.inner.Index.{IsIndexOf}
use Rattle.vl_hier.proofs.index.Index.of_ports.Given as goal

abbrev pub invariant-loop-place : goal.invariant-loop-place
invariant-loop-place l = IsIndexOf (map (λ (x : Port). x.name) (take l.place l.ports)) l.index
