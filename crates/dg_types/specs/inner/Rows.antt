-- The rows of widths that the code builds (own).
use Rattle.std.specs.Prelude.{ℕ, ◌≤◌, length, ⊤}
use Rattle.dg_model.specs.declared.diagram.Edge.{Edge}
use Rattle.dg_model.specs.KindRow.{Shape}
use Rattle.dg_model.specs.Limits.{longest_list}
use Rattle.dg_model.specs.Widths.{Widths, width_at}

-- it has few outputs
abbrev pub HasRow : Shape → Type 0
HasRow Shape.Elementwise = ⊤
HasRow (Shape.Joined sizes) = ⊤
HasRow (Shape.Parted sizes) = length sizes ≤ longest_list
HasRow Shape.Single = ⊤

-- the width of the signal on an edge
abbrev pub width_of_edge : Widths → Edge → ℕ
width_of_edge widths edge = width_at widths edge.from edge.from_port
