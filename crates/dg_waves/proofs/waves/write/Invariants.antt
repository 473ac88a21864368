use Rattle.std.proofs.Common.{◌≡◌, ◌<◌, All, length, drop}
use Rattle.dg_waves.specs.inner.Waves.{written, marked_count, MarkedWait, ReadersMarked}
use Rattle.dg_waves.proofs.waves.write.Given as goal

abbrev pub invariant-loop-change : goal.invariant-loop-change
invariant-loop-change g l = record {
  size : length l.values ≡ g.R.Round.count l.round;
  marks_size : length l.marks ≡ g.R.Round.count l.round;
  there : All (λ block. block < g.R.Round.count l.round) l.waiting.items;
  wait : MarkedWait l.marks l.waiting.items;
  once : length l.waiting.items ≡ marked_count l.marks;
  left : written (drop l.change-index l.changes) l.values ≡ written l.changes l.initial.values;
  marked : ReadersMarked (g.R.Round.readers_of l.round) l.marks l.changes (drop l.change-index l.changes);
}
