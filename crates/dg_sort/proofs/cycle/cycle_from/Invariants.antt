use Rattle.dg_sort.specs.inner.Cycle.{IsMet, IsWalked}
use Rattle.dg_sort.proofs.cycle.cycle_from.Given as goal

abbrev pub invariant-loop-at : goal.invariant-loop-at
invariant-loop-at l = record {
  met : IsMet l.rows l.first l.steps.items;
  walked : IsWalked l.rows l.first l.steps.items l.cycle l.at;
}

abbrev pub decreases-loop-at : goal.decreases-loop-at
decreases-loop-at l = l.at
