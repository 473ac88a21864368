-- What drives an input, and what the input carries (Simulink reference, signal lines; scalar
-- expansion of inputs and parameters).
use Rattle.std.specs.Prelude.{ℕ, ◌==◌, ◌&&◌, ℤ, pos, Bool, if◌then◌else◌, List, map, length, Option, Some, None, find, filter, slice_get}
use Rattle.math_list.specs.Numbers.{numbers_from}
use Rattle.fx_type.specs.declared.kind.FxType.{FxType}
use Rattle.fx_type.specs.declared.kind.FxType.TheVariants.{Logical}
use Rattle.fx_type.specs.declared.decimal.Decimal.{Decimal}
use Rattle.dg_model.specs.declared.diagram.Diagram.{Diagram}
use Rattle.dg_model.specs.declared.diagram.Edge.{Edge}
use Rattle.dg_model.specs.Signals.{Attributes, Table}

-- the edge ends at this input port
abbrev pub enters : ℕ → ℕ → Edge → Bool
enters block port edge = (edge.to == block) && (edge.to_port == port)

-- the edge into an input port
abbrev pub driver_of : Diagram → ℕ → ℕ → Option Edge
driver_of diagram block port = find (enters block port) diagram.edges

-- the edges into a block; in a wired diagram they stand in order of its ports, one for each
abbrev pub edges_into : Diagram → ℕ → List Edge
edges_into diagram block = filter (λ edge. edge.to == block) diagram.edges

-- what holds at the output port that an edge comes from
abbrev pub at_source : {A : Type 0} → Option Edge → A → (ℕ → ℕ → A) → A
at_source None other of_port = other
at_source (Some edge) other of_port = of_port edge.from edge.from_port

-- the width and the type of the signal into an input port; a port without a driver has no width,
-- which a wired diagram rules out
abbrev pub width_into : Diagram → Attributes → ℕ → ℕ → ℕ
width_into diagram attributes block port =
    at_source (driver_of diagram block port) 0 attributes.width_at

-- the type of the signal into an input port
abbrev pub type_into : Diagram → Attributes → ℕ → ℕ → FxType
type_into diagram attributes block port =
    at_source (driver_of diagram block port) Logical attributes.type_at

-- the period of the block that drives an input port
abbrev pub period_into : Diagram → Attributes → ℕ → ℕ → Option ℕ
period_into diagram attributes block port =
    at_source (driver_of diagram block port) None (λ from from_port. attributes.period_at from)

-- the place in a signal or list of this length that serves element e: one of length 1 is repeated
abbrev pub repeated : ℕ → ℕ → ℕ
repeated width element = if width == 1 then 0 else element

-- the stored integer that an input port offers to element e of its block at t
abbrev pub value_into : Diagram → Attributes → Table → ℕ → ℕ → ℕ → ℕ → ℤ
value_into diagram attributes table block port element t =
    at_source (driver_of diagram block port) (pos 0)
    (λ from from_port. table from from_port
    (repeated (attributes.width_at from from_port) element) t)

-- these of all inputs of a block in order
abbrev pub types_into : Diagram → Attributes → ℕ → ℕ → List FxType
types_into diagram attributes block inputs =
    map (type_into diagram attributes block) (numbers_from 1 inputs)

-- the widths into all inputs of a block in order
abbrev pub widths_into : Diagram → Attributes → ℕ → ℕ → List ℕ
widths_into diagram attributes block inputs =
    map (width_into diagram attributes block) (numbers_from 1 inputs)

-- the stored integers that all inputs of a block offer to an element at t, in order
abbrev pub values_into : Diagram → Attributes → Table → ℕ → ℕ → ℕ → ℕ → List ℤ
values_into diagram attributes table block inputs element t =
    map (λ port. value_into diagram attributes table block port element t) (numbers_from 1 inputs)

-- a list parameter's entry for element e
abbrev pub entry_of : List Decimal → ℕ → Option Decimal
entry_of list element = slice_get list (repeated (length list) element)
