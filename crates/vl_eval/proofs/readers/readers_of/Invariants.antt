use Rattle.std.proofs.Common.{◌≡◌, ◌<◌, ◌≤◌, ◌+◌, ◌*◌, ℕ, length, slice_index_or}
use Rattle.vl_eval.specs.declared.ops.Op.{Op}
use Rattle.vl_eval.specs.inner.Order.{each_of}
use Rattle.vl_eval.specs.inner.Reading.{AreChains, IsReader}
use Rattle.vl_eval.proofs.readers.readers_of.Given as goal

abbrev pub invariant-loop-number : goal.invariant-loop-number
invariant-loop-number l = record {
  wide : length l.readers.heads.items ≡ l.base + length l.ops;
  few : length l.readers.links.items ≤ l.number * 4;
  chains : AreChains (length l.ops) l.readers;
  each : (k : ℕ) (d : Op) → k < l.number → each_of (λ place. IsReader l.readers place k) (slice_index_or l.ops k d);
}
