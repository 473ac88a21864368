use Rattle.dg_types.specs.inner.WidthScan.{KeepAllBelow}
use Rattle.dg_types.proofs.dimensions.first_broken.Given as goal

abbrev pub invariant-loop-place : goal.invariant-loop-place
invariant-loop-place l = KeepAllBelow l.diagram l.place
