use Rattle.std.proofs.Common.{map, take}
use Rattle.vl_ast.specs.declared.modules.Module.{Module}
use Rattle.vl_hier.specs.inner.Index.{IsIndexOf}
use Rattle.vl_hier.proofs.index.Index.of_modules.Given as goal

abbrev pub invariant-loop-place : goal.invariant-loop-place
invariant-loop-place l = IsIndexOf (map (λ (x : Module). x.name) (take l.place l.modules)) l.index
