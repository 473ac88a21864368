use Rattle.std.proofs.Common.{◌≤◌, ◌-◌, ℕ, slice_index}
use Rattle.vl_check.specs.inner.Walks.{State, total}
use Rattle.vl_check.proofs.Limits.{limit}
use Rattle.vl_check.proofs.sorting.search.Given as goal

abbrev pub invariant-loop-stage : goal.invariant-loop-stage
invariant-loop-stage l = record {
  state : State l.reads l.stage l.stack.items l.order.items;
  root : 1 ≤ slice_index l.stage l.root;
  higher : (v : ℕ) → slice_index l.fn.stage v ≤ slice_index l.stage v;
}

abbrev pub decreases-loop-stage : goal.decreases-loop-stage
decreases-loop-stage l = limit l.reads - total l.stage
