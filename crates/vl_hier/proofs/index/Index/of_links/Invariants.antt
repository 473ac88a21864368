use Rattle.std.proofs.Common.{map, take}
use Rattle.vl_ast.specs.declared.designs.Link.{Link}
use Rattle.vl_hier.specs.inner.Index.{IsIndexOf}
use Rattle.vl_hier.proofs.index.Index.of_links.Given as goal

abbrev pub invariant-loop-place : goal.invariant-loop-place
invariant-loop-place l = IsIndexOf (map (λ (x : Link). x.port) (take l.place l.links)) l.index
