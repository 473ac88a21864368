use Rattle.hw_share.specs.inner.ChainEnds.{AreEnds}
use Rattle.hw_share.specs.inner.ClockTests.{AreTests}
use Rattle.hw_share.proofs.joining.ends_of.Given as goal

abbrev pub invariant-loop-one : goal.invariant-loop-one
invariant-loop-one l = AreEnds l.fn.net l.net l.operations l.ends.items l.one-index × AreTests l.fn.net l.net l.moments.entries
