use Rattle.hw_sched.specs.inner.Spans.{AreLongestTo}
use Rattle.hw_sched.proofs.spans.longest_into.Given as goal

abbrev pub invariant-loop-edge : goal.invariant-loop-edge
invariant-loop-edge l = AreLongestTo l.checked.diagram l.edge-index l.longest.items
