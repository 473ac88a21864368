-- A simulation of a diagram before its first sample, the lines of its response, and what may be
-- wrong with its stimulus (own).
use Rattle.std.specs.Prelude.{◌≡◌, ⊤, ℕ, ℤ, List, length, map, Option, Some}
use Rattle.dg_model.specs.Checked.{CheckedDiagram}
use Rattle.dg_model.specs.declared.diagram.Diagram.{Diagram}
use Rattle.dg_response.specs.Laws.{SomeResponse}
use Rattle.dg_response.specs.Responding.{IsBefore, row_of}
use Rattle.dg_response.specs.Response.{input_columns, output_columns, IsResponse}
use Rattle.fx_io.specs.Sink.{TookProperPrefix, also_took}
use Rattle.cmd_simulate.specs.declared.simulation.Simulation.{Simulation}
use Rattle.fx_tables.specs.declared.table.Column.{Column}
use Rattle.fx_tables.specs.declared.table.Rows.{Rows}
use Rattle.fx_tables.specs.declared.table.TableFault.{TableFault}
use Rattle.fx_tables.specs.declared.table.TableFault.TheVariants.{Bad, OutOfMemory}
use Rattle.fx_tables.specs.Response.{response}
use Rattle.fx_tables.specs.RowText.{periods_of}
use Rattle.fx_tables.specs.Stimulus.{IsRows, stimulus_fault}

-- the base samples from one number to the next, for each root output element
abbrev pub output_periods : Diagram → List ℕ
output_periods diagram = map (λ (column : Column). column.period) (output_columns diagram)

-- the first bad line of a stimulus of a diagram
abbrev pub fault_in : Diagram → List ℕ → Option TableFault
fault_in diagram stimulus =
    stimulus_fault (input_columns diagram) (length (output_columns diagram)) stimulus

-- what a fault says of a stimulus of a diagram
abbrev pub IsStimulusFault : Diagram → List ℕ → TableFault → Type 0
IsStimulusFault diagram stimulus (Bad line cause) =
    fault_in diagram stimulus ≡ Some (Bad line cause)
IsStimulusFault diagram stimulus OutOfMemory = ⊤

-- the response of a diagram to a stimulus is ready to be written
pub record IsSimulationIn (checked : CheckedDiagram) (stimulus : List ℕ)
    (ready : Simulation) : Type 0 where
  pub rows_are : IsRows (input_columns checked.diagram)
      (length (output_columns checked.diagram)) stimulus ready.rows
  pub response : SomeResponse checked.diagram ready.rows
  pub before : IsBefore checked ready.rows ready.responding 0
  pub periods : periods_of ready.text ≡ output_periods checked.diagram
  pub wide : length (row_of ready.responding) ≡ length (periods_of ready.text)

-- the text is the first t lines of every response of the diagram to the rows
pub record AreLines (checked : CheckedDiagram) (rows : Rows) (periods : List ℕ) (t : ℕ)
    (text : List ℕ) : Type 0 where
  pub each : (lines : ℕ → List ℤ) → IsResponse checked.diagram rows lines
      → text ≡ response periods lines t

-- the first t lines of every response were taken
pub record TookLines (checked : CheckedDiagram) (rows : Rows) (periods : List ℕ) (t : ℕ)
    (before now : Option (List ℕ)) : Type 0 where
  pub each : (lines : ℕ → List ℤ) → IsResponse checked.diagram rows lines
      → now ≡ also_took before (response periods lines t)

-- a proper prefix of the lines of every response was taken
pub record TookPartOfLines (checked : CheckedDiagram) (rows : Rows) (periods : List ℕ)
    (before now : Option (List ℕ)) : Type 0 where
  pub each : (lines : ℕ → List ℤ) → IsResponse checked.diagram rows lines
      → TookProperPrefix before now (response periods lines rows.lines)
