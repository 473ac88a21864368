use Rattle.hw_sched.specs.inner.Spans.{AreSpansTo}
use Rattle.hw_sched.proofs.spans.spans_of.Given as goal

abbrev pub invariant-loop-period : goal.invariant-loop-period
invariant-loop-period l = AreSpansTo l.checked.diagram l.plan l.period l.spans.items
