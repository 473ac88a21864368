use Rattle.std.proofs.Common.{◌≡◌, ◌<◌, All, length, drop}
use Rattle.dg_waves.specs.inner.Waves.{marked_count, Marked, MarkedWait}
use Rattle.dg_waves.proofs.waves.let_wait.Given as goal

abbrev pub invariant-loop-block : goal.invariant-loop-block
invariant-loop-block l = record {
  size : length l.marks ≡ length l.initial.marks;
  there : All (λ block. block < length l.initial.marks) l.waiting.items;
  wait : MarkedWait l.marks l.waiting.items;
  once : length l.waiting.items ≡ marked_count l.marks;
  marked : Marked l.initial.marks l.marks l.blocks (drop l.block-index l.blocks);
}
