use Rattle.std.proofs.Common.{◌≡◌, ◌*◌, length}
use Rattle.vl_eval.specs.Machine.{source_of}
use Rattle.vl_replay.specs.inner.Play.{IsPlayed}
use Rattle.vl_replay.proofs.playing.play.Given as goal

abbrev pub invariant-loop-sample : goal.invariant-loop-sample
invariant-loop-sample l = record {
  played : IsPlayed l.score l.score.window (l.sample * l.score.cycles) l.machine l.cells;
  wide : length l.bits ≡ length l.score.drivers.items;
  source : source_of l.machine ≡ source_of l.fn.machine;
}
