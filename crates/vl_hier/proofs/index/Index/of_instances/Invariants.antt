use Rattle.std.proofs.Common.{map, take}
use Rattle.vl_ast.specs.declared.designs.Instance.{Instance}
use Rattle.vl_hier.specs.inner.Index.{IsIndexOf}
use Rattle.vl_hier.proofs.index.Index.of_instances.Given as goal

abbrev pub invariant-loop-place : goal.invariant-loop-place
invariant-loop-place l = IsIndexOf (map (λ (x : Instance). x.name) (take l.place l.instances)) l.index
