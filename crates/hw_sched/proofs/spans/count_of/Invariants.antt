use Rattle.hw_sched.proofs.SpanLines.{AreWithin}
use Rattle.hw_sched.proofs.spans.count_of.Given as goal

abbrev pub invariant-loop-place : goal.invariant-loop-place
invariant-loop-place l = AreWithin l.checked.diagram l.place l.longest
