use Rattle.dg_model.specs.declared.resolved.Resolved.{Resolved}
use Rattle.hw_sched.specs.Answer.{timing_of}
use Rattle.hw_sched.specs.inner.Service.{AreBases}
use Rattle.hw_sched.proofs.Outputs.{AreReadyTo}
use Rattle.hw_sched.proofs.readying.ready_of.Given as goal

abbrev pub invariant-loop-place : goal.invariant-loop-place
invariant-loop-place l = (plan : Resolved)
    → AreBases l.checked.diagram plan (timing_of l.latencies l.depths) l.bases
    → AreReadyTo l.checked.diagram plan (timing_of l.latencies l.depths) l.place l.ready
