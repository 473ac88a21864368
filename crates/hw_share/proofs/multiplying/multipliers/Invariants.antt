use Rattle.hw_share.specs.inner.Steps.{AreMultipliers}
use Rattle.hw_share.proofs.multiplying.multipliers.Given as goal

abbrev pub invariant-loop-known : goal.invariant-loop-known
invariant-loop-known l = AreMultipliers l.fn.net l.net l.ends l.numbers l.known-index
