use Rattle.hw_sched.specs.inner.Greatest.{AreDepthsTo}
use Rattle.hw_sched.proofs.deepening.depths.Given as goal

abbrev pub invariant-loop-place : goal.invariant-loop-place
invariant-loop-place l = AreDepthsTo l.checked.diagram l.plan l.checked.order l.place-index l.depths.items
