use Rattle.hw_explore.specs.inner.Best.{IsBest}
use Rattle.hw_explore.proofs.exploring.least_of.Given as goal

abbrev pub invariant-loop-place : goal.invariant-loop-place
invariant-loop-place l = IsBest l.rows l.place l.best
