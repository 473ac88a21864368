use Rattle.std.proofs.Common.{◌≡◌, ◌<◌, ℕ, true, slice_index}
use Rattle.hw_trim.specs.inner.Marks.{is_marked, Marks}
use Rattle.hw_trim.proofs.marking.mark_all.Given as goal

abbrev pub invariant-loop-k : goal.invariant-loop-k
invariant-loop-k l = record {
  marks : Marks l.fn.marks l.marks l.fn.order.items l.order.items;
  marked : (j : ℕ) → j < l.k-index → is_marked l.marks (slice_index l.list j) ≡ true;
}
