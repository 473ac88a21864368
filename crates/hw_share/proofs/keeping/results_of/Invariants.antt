use Rattle.hw_share.specs.inner.Steps.{AreResults}
use Rattle.hw_share.proofs.keeping.results_of.Given as goal

abbrev pub invariant-loop-one : goal.invariant-loop-one
invariant-loop-one l = AreResults l.fn.net l.net l.operations l.numbers l.results l.one-index
