-- What responses are, for every diagram that keeps the rules (own).
use Rattle.std.specs.Prelude.{◌≡◌, ℕ, ℤ, ◌<◌, List, length}
use Rattle.fx_tables.specs.declared.table.Rows.{Rows}
use Rattle.fx_tables.specs.Stimulus.{FitsColumns}
use Rattle.dg_model.specs.declared.diagram.Diagram.{Diagram}
use Rattle.dg_tables.specs.Laws.{IsOrdered}
use Rattle.dg_response.specs.Response.{IsResponse, input_columns}

-- there is one response to rows of numbers; the order is any one of the diagram's blocks along the
-- instant edges
abbrev pub ResponsesAreOne : Type 0
ResponsesAreOne =
    (diagram : Diagram) (order : List ℕ) (rows : Rows) (lines other : ℕ → List ℤ)
    → IsOrdered diagram order
    → IsResponse diagram rows lines → IsResponse diagram rows other → (t : ℕ) → t < rows.lines
    → lines t ≡ other t

-- a response to rows of numbers
pub record SomeResponse (diagram : Diagram) (rows : Rows) : Type 0 where
  pub lines : ℕ → List ℤ
  pub shown : IsResponse diagram rows lines

-- there is a response to rows whose numbers fit the columns of the inputs
abbrev pub SomeResponds : Type 0
SomeResponds = (diagram : Diagram) (order : List ℕ) (rows : Rows) → IsOrdered diagram order
    → rows.columns ≡ length (input_columns diagram) → FitsColumns (input_columns diagram) rows
    → SomeResponse diagram rows
