-- The response of a checked diagram to the rows of a stimulus (Simulink reference, root ports; the
-- columns are own).
use Rattle.std.specs.Prelude.{◌≡◌, ℕ, ℤ, pos, ◌+◌, ◌*◌, ◌<◌, List, map, slice_index_or}
use Rattle.std.specs.Option.{unwrap_or}
use Rattle.fx_type.specs.FxType.{lowest_of, highest_of}
use Rattle.fx_tables.specs.declared.table.Column.{Column}
use Rattle.fx_tables.specs.declared.table.Rows.{Rows}
use Rattle.dg_model.specs.declared.diagram.Diagram.{Diagram}
use Rattle.dg_model.specs.Attributes.{attributes_of}
use Rattle.dg_model.specs.RootElements.{RootElement, root_inputs, root_outputs, stimulus_of_columns}
use Rattle.dg_model.specs.Signals.{Stimulus, Table}
use Rattle.dg_model.specs.Solves.{Solves}

-- the base samples from one number of an element to the next
abbrev pub step_of : RootElement → ℕ
step_of element = unwrap_or element.period 1

-- the column of an element: the range of its type and its period
abbrev pub column_of : RootElement → Column
column_of element =
    record {
      low = lowest_of element.type;
      high = highest_of element.type;
      period = step_of element;
    }

-- one for each root input element, in order
abbrev pub input_columns : Diagram → List Column
input_columns diagram = map column_of (root_inputs diagram (attributes_of diagram))

-- one for each root output element, in order
abbrev pub output_columns : Diagram → List Column
output_columns diagram = map column_of (root_outputs diagram (attributes_of diagram))

-- the number of a column at a sample
abbrev pub number_in : Rows → ℕ → ℕ → ℤ
number_in rows place t = slice_index_or rows.cells (t * rows.columns + place) (pos 0)

-- the stimulus whose numbers stand in the rows
abbrev pub stimulus_of : Diagram → Rows → Stimulus
stimulus_of diagram rows =
    stimulus_of_columns (root_inputs diagram (attributes_of diagram)) (number_in rows)

-- what a table shows of the root outputs at a sample
abbrev pub shown : Diagram → Table → ℕ → List ℤ
shown diagram table t =
    map (λ element. table element.block 1 element.element t)
    (root_outputs diagram (attributes_of diagram))

-- the lines are the response to the rows: what the table that solves the diagram shows of the root
-- outputs
pub record IsResponse (diagram : Diagram) (rows : Rows) (lines : ℕ → List ℤ) : Type 0 where
  pub table : Table
  pub solves : Solves diagram (attributes_of diagram) (stimulus_of diagram rows) rows.lines table
  pub lines_are : (t : ℕ) → t < rows.lines → lines t ≡ shown diagram table t
