use Rattle.std.proofs.Common.{◌<◌, ◌-◌, length}
use Rattle.dg_sort.specs.inner.Cycle.{AreClosed, AreSteps}
use Rattle.dg_sort.proofs.cycle.steps_back.Given as goal

abbrev pub invariant-back : goal.invariant-back
invariant-back l = record {
  steps : AreSteps l.rows l.first l.steps.items l.is_met.items;
  inside : l.at < length l.steps.items;
  closed : AreClosed l.rows l.first l.at l.steps.items l.is_met.items;
}

abbrev pub decreases-back : goal.decreases-back
decreases-back l = length l.rows - l.at
