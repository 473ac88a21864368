use Rattle.dg_types.specs.inner.TypeScan.{KeepBelow}
use Rattle.dg_types.proofs.typed.first_broken.Given as goal

abbrev pub invariant-loop-place : goal.invariant-loop-place
invariant-loop-place l = KeepBelow l.part l.typed.diagram.now l.place
