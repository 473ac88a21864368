-- What a replay has before its first clock.
use Rattle.std.specs.Prelude.{◌^◌, ◌<◌, ◌≤◌, length}
use Rattle.fx_tables.specs.Stimulus.{most_cells}
use Rattle.vl_ast.specs.Driven.{output_ports}
use Rattle.vl_ast.specs.Steps.{IsFirstRow}
use Rattle.vl_eval.specs.Machine.{IsReady, row_of}
use Rattle.vl_replay.specs.declared.replay.Replay.{Replay}
use Rattle.vl_replay.specs.Replays.{module_of, stimulus_of}
use Rattle.vl_replay.specs.inner.Play.{IsScoreOf}

-- its machine is in row 0, and its score is that of the machine's module
pub record CanBegin (replay : Replay) : Type 0 where
  pub ready : IsReady replay.machine
  pub row : IsFirstRow (module_of replay) (λ name. 0) (λ name. 0) (row_of replay.machine)
  pub outputs : length (output_ports (module_of replay)) < 2 ^ 32
  pub score : IsScoreOf (module_of replay) replay.score
  pub few : (stimulus_of replay).lines ≤ most_cells
