-- What callers see of a replay.
use Rattle.std.specs.Prelude.{◌≡◌, ◌+◌, ◌*◌, ◌≤◌, length}
use Rattle.fx_tables.specs.Stimulus.{most_cells}
use Rattle.fx_tables.specs.declared.table.Rows.{Rows as Table}
use Rattle.vl_ast.specs.declared.modules.Module.{Module}
use Rattle.vl_ast.specs.Windows.{Sample}
use Rattle.vl_eval.specs.Machine.{source_of}
use Rattle.vl_replay.specs.declared.replay.Replay.{Replay}
use Rattle.vl_replay.specs.inner.Play.{IsPlayed}

-- the module of its machine
abbrev pub module_of : Replay → Module
module_of replay = source_of replay.machine

-- its stimulus
abbrev pub stimulus_of : Replay → Table
stimulus_of replay = replay.score.stimulus

-- the numbers of all samples before this one are given, and the clocks of those that it waits for
-- are passed
pub record StandsBefore (replay : Replay) (t : Sample) : Type 0 where
  pub few : replay.score.stimulus.lines ≤ most_cells
  pub wide : length replay.bits.items ≡ length replay.score.drivers.items
  pub played : IsPlayed replay.score replay.score.window
      ((t + replay.score.delay) * replay.score.cycles) replay.machine replay.cells.items
