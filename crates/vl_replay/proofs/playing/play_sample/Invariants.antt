use Rattle.std.proofs.Common.{◌≡◌, ◌+◌, ◌*◌}
use Rattle.vl_eval.specs.Machine.{source_of}
use Rattle.vl_replay.specs.inner.Play.{IsPlayed}
use Rattle.vl_replay.proofs.playing.play_sample.Given as goal

abbrev pub invariant-loop-phase : goal.invariant-loop-phase
invariant-loop-phase l = record {
  played : IsPlayed l.score l.score.window (l.sample * l.score.cycles + l.phase) l.machine l.cells;
  source : source_of l.machine ≡ source_of l.fn.machine;
}
