use Rattle.std.proofs.Common.{◌≡◌, ◌<◌, All, length, drop}
use Rattle.dg_waves.specs.inner.Waves.{Sought, MarkedWait}
use Rattle.dg_waves.proofs.waves.changes.Given as goal

abbrev pub invariant-loop-block : goal.invariant-loop-block
invariant-loop-block g l = record {
  marks_size : length l.marks ≡ g.R.Round.count l.round;
  sought : Sought (g.R.Round.next l.round) l.values l.found.items (drop l.block-index l.waiting);
  there : All (λ change. change.block < g.R.Round.count l.round) l.found.items;
  wait : MarkedWait l.marks (drop l.block-index l.waiting);
}
