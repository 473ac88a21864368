use Rattle.std.proofs.Common.{ℕ, ◌<◌, slice_index}
use Rattle.hw_order.specs.inner.NetOrder.{Grows, IsReader}
use Rattle.hw_order.proofs.order.link_all.Given as goal

abbrev pub invariant-loop-read : goal.invariant-loop-read
invariant-loop-read l = record {
  grows : Grows l.fn.readers l.readers;
  knows : (j : ℕ) → j < l.read-index → IsReader l.readers (slice_index l.reads j) l.reader;
}
