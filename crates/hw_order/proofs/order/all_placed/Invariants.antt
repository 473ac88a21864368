use Rattle.std.proofs.Common.{ℕ, ◌<◌, slice_index}
use Rattle.hw_order.specs.inner.NetOrder.{IsPlaced}
use Rattle.hw_order.proofs.order.all_placed.Given as goal

abbrev pub invariant-loop-read : goal.invariant-loop-read
invariant-loop-read l = (j : ℕ) → j < l.read-index → IsPlaced l.ranks (slice_index l.reads j)
