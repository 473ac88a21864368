use Rattle.std.proofs.Common.{◌<◌, ◌≤◌, [], ℕ, slice_index}
use Rattle.vl_check.specs.inner.Walks.{State}
use Rattle.vl_check.proofs.sorting.sort.Given as goal

abbrev pub invariant-loop-root : goal.invariant-loop-root
invariant-loop-root l = record {
  state : State l.reads l.stage.items [] l.order.items;
  met : (v : ℕ) → v < l.root → 1 ≤ slice_index l.stage.items v;
}
