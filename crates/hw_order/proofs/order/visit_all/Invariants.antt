use Rattle.std.proofs.Common.{ℕ, ◌<◌, slice_index}
use Rattle.hw_order.specs.inner.NetOrder.{Visits, Serves}
use Rattle.hw_order.proofs.order.visit_all.Given as goal

abbrev pub invariant-loop-k : goal.invariant-loop-k
invariant-loop-k l = record {
  visited : Visits l.nets l.fn.order.items l.order.items l.fn.ranks l.ranks;
  placed : (j : ℕ) → j < l.k-index → Serves l.nets l.fn.ranks l.ranks (slice_index l.list j);
}
