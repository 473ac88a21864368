-- The columns of a diagram, and what is made of them.
use Rattle.std.specs.Prelude.{◌≡◌, ◌≤◌, length, map}
use Rattle.dg_model.specs.Checked.{CheckedDiagram}
use Rattle.dg_model.specs.declared.diagram.Diagram.{Diagram}
use Rattle.dg_response.specs.declared.root_columns.RootColumns.{RootColumns}
use Rattle.dg_response.specs.Laws.{SomeResponse}
use Rattle.dg_response.specs.Responding.{IsBefore}
use Rattle.dg_response.specs.Response.{input_columns, output_columns}
use Rattle.cmd_simulate.specs.declared.simulation.Simulation.{Simulation}
use Rattle.fx_tables.specs.declared.table.Column.{Column}
use Rattle.fx_tables.specs.declared.table.Rows.{Rows}
use Rattle.fx_tables.specs.RowText.{periods_of}
use Rattle.fx_tables.specs.Stimulus.{FitsColumns, most_cells}

-- these are the columns of a diagram
unfoldable pub HasColumns : Diagram → RootColumns → Type 0
HasColumns diagram columns =
    (columns.inputs ≡ input_columns diagram) × (columns.outputs ≡ output_columns diagram)

-- and these the rows of a stimulus by them
pub record HaveRows (diagram : Diagram) (own : RootColumns) (rows : Rows) : Type 0 where
  pub columns : HasColumns diagram own
  pub count : rows.columns ≡ length own.inputs
  pub fits : FitsColumns own.inputs rows
  pub few : rows.lines ≤ most_cells

-- a response to these rows and the writer of its lines are ready
pub record IsReadyFor (checked : CheckedDiagram) (columns : RootColumns) (rows : Rows)
    (ready : Simulation) : Type 0 where
  pub rows_are : ready.rows ≡ rows
  pub response : SomeResponse checked.diagram ready.rows
  pub before : IsBefore checked ready.rows ready.responding 0
  pub periods : periods_of ready.text ≡ map (λ (column : Column). column.period) columns.outputs
