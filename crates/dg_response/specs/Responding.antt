-- What callers see of a response that is worked out sample by sample (own).
use Rattle.std.specs.Prelude.{◌≡◌, ℕ, ℤ, ◌<◌, ◌^◌, List, length}
use Rattle.fx_tables.specs.declared.table.Rows.{Rows}
use Rattle.fx_tables.specs.Stimulus.{FitsColumns}
use Rattle.dg_model.specs.Attributes.{attributes_of}
use Rattle.dg_model.specs.Checked.{CheckedDiagram}
use Rattle.dg_model.specs.Signals.{Table}
use Rattle.dg_model.specs.Solves.{Solves}
use Rattle.dg_sim.specs.Sim.{IsSimOf, Stands}
use Rattle.dg_response.specs.declared.responding.Responding.{Responding}
use Rattle.dg_response.specs.Response.{IsResponse, input_columns, output_columns, stimulus_of}

-- the numbers of the latest sample, one for each root output element
abbrev pub row_of : Responding → List ℤ
row_of responding = responding.row.items

-- the table solves the diagram under the rows
abbrev pub SolvesRows : CheckedDiagram → Rows → Table → Type 0
SolvesRows checked rows table =
    Solves checked.diagram (attributes_of checked.diagram)
    (stimulus_of checked.diagram rows) rows.lines table

-- it stands before sample t of the response to the rows, whose numbers fit the diagram's columns
pub record IsBefore (checked : CheckedDiagram) (rows : Rows) (responding : Responding)
    (t : ℕ) : Type 0 where
  pub columns : rows.columns ≡ length (input_columns checked.diagram)
  pub fits : FitsColumns (input_columns checked.diagram) rows
  pub few : rows.lines < 2 ^ 63
  pub wide : length (row_of responding) ≡ length (output_columns checked.diagram)
  pub sim_of : IsSimOf checked responding.sim
  pub samples : responding.sim.samples ≡ t
  pub stands : (table : Table) → SolvesRows checked rows table
      → Stands checked.diagram (attributes_of checked.diagram) responding.sim table t

-- the numbers are those of sample t in every response of the diagram to the rows
pub record IsRowAt (checked : CheckedDiagram) (rows : Rows) (t : ℕ)
    (numbers : List ℤ) : Type 0 where
  pub each : (lines : ℕ → List ℤ) → IsResponse checked.diagram rows lines → numbers ≡ lines t
