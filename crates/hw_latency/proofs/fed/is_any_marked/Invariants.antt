use Rattle.hw_latency.specs.inner.Marks.{AreUnmarked}
use Rattle.hw_latency.proofs.fed.is_any_marked.Given as goal

abbrev pub invariant-loop-source : goal.invariant-loop-source
invariant-loop-source l = AreUnmarked l.marks l.row l.source-index
