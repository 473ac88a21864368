use Rattle.hw_build.specs.inner.EndSearch.{AreNets}
use Rattle.hw_build.specs.inner.Wants.{nets_at}
use Rattle.hw_build.proofs.asks.nets_of.Given as goal

abbrev pub invariant-loop-ask : goal.invariant-loop-ask
invariant-loop-ask l = AreNets l.list (nets_at l.answers l.seats) l.nets l.ask-index
