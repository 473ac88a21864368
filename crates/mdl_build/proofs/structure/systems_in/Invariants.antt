use Rattle.mdl_build.specs.inner.Structure.{AreCounts}
use Rattle.mdl_build.proofs.structure.systems_in.Given as goal

abbrev pub invariant-loop-place : goal.invariant-loop-place
invariant-loop-place l = AreCounts l.layout.items.now l.counts.items l.place
