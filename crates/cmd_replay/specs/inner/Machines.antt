-- A machine of a Verilog text, what it needs to respond, and a replay as its lines are written.
use Rattle.std.specs.Prelude.{◌≡◌, ◌<◌, ◌≤◌, ◌^◌, ℕ, All, List, length, map}
use Rattle.cmd_replay.specs.declared.response.Response.{Response}
use Rattle.cmd_replay.specs.Replayed.{IsSoundText}
use Rattle.fx_tables.specs.Stimulus.{most_cells}
use Rattle.fx_tables.specs.declared.row_text.RowText.{RowText}
use Rattle.fx_tables.specs.declared.table.Column.{Column}
use Rattle.fx_tables.specs.declared.table.Rows.{Rows}
use Rattle.fx_tables.specs.RowText.{periods_of}
use Rattle.vl_ast.specs.Conditions.{BreaksNone}
use Rattle.vl_ast.specs.Driven.{output_ports, stimulus_ports}
use Rattle.vl_ast.specs.Steps.{IsFirstRow}
use Rattle.vl_eval.specs.Machine.{IsReady, row_of, source_of}
use Rattle.vl_eval.specs.declared.machine.Machine.{Machine}
use Rattle.vl_replay.specs.Replays.{StandsBefore, module_of, stimulus_of}
use Rattle.vl_replay.specs.declared.replay.Replay.{Replay}

-- a machine in row 0 of the module that the text spells
pub record IsMachineOf (verilog : List ℕ) (machine : Machine) : Type 0 where
  pub ready : IsReady machine
  pub row : IsFirstRow (source_of machine) (λ name. 0) (λ name. 0) (row_of machine)
  pub spelled : IsSoundText verilog (source_of machine)

-- a machine in row 0 can replay the rows of a stimulus, and these columns of outputs have lines
pub record CanRespond (machine : Machine) (rows : Rows) (outputs : List Column) : Type 0 where
  pub ready : IsReady machine
  pub sound : BreaksNone (source_of machine)
  pub row : IsFirstRow (source_of machine) (λ name. 0) (λ name. 0) (row_of machine)
  pub columns : rows.columns ≡ length (stimulus_ports (source_of machine))
  pub few_outputs : length (output_ports (source_of machine)) < 2 ^ 32
  pub few : rows.lines ≤ most_cells
  pub periods : All (λ column. 0 < column.period) outputs
  pub few_columns : length outputs < 2 ^ 32

-- its response to them
pub record IsResponseOf (machine : Machine) (rows : Rows) (outputs : List Column)
    (made : Response) : Type 0 where
  pub samples : made.samples ≡ rows.lines
  pub text : periods_of made.text ≡ map (λ column. column.period) outputs
  pub stands : StandsBefore made.replay 0
  pub source : module_of made.replay ≡ source_of machine
  pub stimulus : stimulus_of made.replay ≡ rows

-- a replay and the writer of its lines stand before a sample, and are of the module, the stimulus
-- and the periods of the first
pub record GoesOn (first : Replay) (writer : RowText) (sample : ℕ) (replay : Replay)
    (text : RowText) : Type 0 where
  pub stands : StandsBefore replay sample
  pub source : module_of replay ≡ module_of first
  pub stimulus : stimulus_of replay ≡ stimulus_of first
  pub periods : periods_of text ≡ periods_of writer
