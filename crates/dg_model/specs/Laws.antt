-- What the definitions together say of a wired diagram (own).
use Rattle.std.specs.Prelude.{◌≡◌, ℕ, ◌<◌, ℤ, List, map, Option, Some, slice_get}
use Rattle.dg_model.specs.declared.diagram.Diagram.{Diagram}
use Rattle.dg_model.specs.declared.diagram.Block.{Block}
use Rattle.dg_model.specs.declared.row.Role.{Role}
use Rattle.dg_model.specs.Signals.{Attributes, Stimulus, Table}
use Rattle.math_list.specs.Numbers.{numbers_from}
use Rattle.dg_model.specs.Wires.{driver_of, edges_into, width_into, widths_into, types_into, values_into, repeated}
use Rattle.dg_model.specs.Wired.{IsWired, root_input, root_output}
use Rattle.dg_model.specs.Solves.{IsStimulus}
use Rattle.dg_model.specs.RootElements.{RootElement, root_element, number_in, root_inputs, root_outputs, AreColumns, column_of_stimulus, stimulus_of_columns}

-- the drivers of a block's ports in order are the edges into it
abbrev pub DriversAreEdges : Type 0
DriversAreEdges = (diagram : Diagram) (place : ℕ) (block : Block) → IsWired diagram → slice_get diagram.blocks place ≡ Some block
    → map (driver_of diagram place) (numbers_from 1 block.inputs) ≡ map Some (edges_into diagram place)

-- the widths of its inputs are those at the sources of these edges
abbrev pub WidthsAreOfEdges : Type 0
WidthsAreOfEdges = (diagram : Diagram) (attributes : Attributes) (place : ℕ) (block : Block) → IsWired diagram → slice_get diagram.blocks place ≡ Some block
    → widths_into diagram attributes place block.inputs ≡ map (λ edge. attributes.width_at edge.from edge.from_port) (edges_into diagram place)

-- so are their types
abbrev pub TypesAreOfEdges : Type 0
TypesAreOfEdges = (diagram : Diagram) (attributes : Attributes) (place : ℕ) (block : Block) → IsWired diagram → slice_get diagram.blocks place ≡ Some block
    → types_into diagram attributes place block.inputs ≡ map (λ edge. attributes.type_at edge.from edge.from_port) (edges_into diagram place)

-- and their values
abbrev pub ValuesAreOfEdges : Type 0
ValuesAreOfEdges =
    (diagram : Diagram) (attributes : Attributes) (table : Table) (place : ℕ) (block : Block)
    (element t : ℕ) → IsWired diagram → slice_get diagram.blocks place ≡ Some block
    → values_into diagram attributes table place block.inputs element t
    ≡ map (λ edge. table edge.from edge.from_port (repeated (attributes.width_at edge.from edge.from_port) element) t) (edges_into diagram place)

-- ---- root elements

-- what stands in the list of root elements of these ports and widths is an element of a port
abbrev pub IsElementOfPort : (Role → Option ℕ) → (ℕ → ℕ) → Diagram → Attributes → RootElement → Type 0
IsElementOfPort number_of width_of diagram attributes e =
    (b : Block) × (slice_get diagram.blocks e.block ≡ Some b)
    × (number_in number_of b ≡ Some e.number) × (e.element < width_of e.block)
    × (e ≡ root_element attributes e.number e.block e.element)

-- the list has each element of each port
abbrev pub HasEachElement : (Role → Option ℕ) → (ℕ → ℕ) → Diagram → Attributes → List RootElement → Type 0
HasEachElement number_of width_of diagram attributes elements =
    (block : ℕ) (b : Block) (number element : ℕ) → slice_get diagram.blocks block ≡ Some b → number_in number_of b ≡ Some number → element < width_of block
    → (place : ℕ) × (slice_get elements place ≡ Some (root_element attributes number block element))

-- each of them stands at one place
abbrev pub AreDifferent : List RootElement → Type 0
AreDifferent elements =
    (place other : ℕ) (e o : RootElement) → slice_get elements place ≡ Some e
    → slice_get elements other ≡ Some o → e.number ≡ o.number → e.element ≡ o.element
    → place ≡ other

-- the list has each element of each such port at one place, and nothing else
pub record AreRootElements (number_of : Role → Option ℕ) (width_of : ℕ → ℕ) (diagram : Diagram) (attributes : Attributes) (elements : List RootElement) : Type 0 where
  pub elements_of : (place : ℕ) (e : RootElement) → slice_get elements place ≡ Some e → IsElementOfPort number_of width_of diagram attributes e
  pub has_each : HasEachElement number_of width_of diagram attributes elements
  pub different : AreDifferent elements

-- the list of root inputs of a wired diagram is such
abbrev pub InputsAreListed : Type 0
InputsAreListed =
    (diagram : Diagram) (attributes : Attributes) → IsWired diagram
    → AreRootElements root_input (λ block. attributes.width_at block 1) diagram attributes
    (root_inputs diagram attributes)

-- so is that of its root outputs
abbrev pub OutputsAreListed : Type 0
OutputsAreListed =
    (diagram : Diagram) (attributes : Attributes) → IsWired diagram
    → AreRootElements root_output
    (λ block. width_into diagram attributes block 1) diagram attributes
    (root_outputs diagram attributes)

-- columns of numbers in range make a stimulus
abbrev pub ColumnsMakeStimulus : Type 0
ColumnsMakeStimulus = (diagram : Diagram) (attributes : Attributes) (column : ℕ → ℕ → ℤ) (n : ℕ) → IsWired diagram
    → AreColumns (root_inputs diagram attributes) column n → IsStimulus diagram attributes (stimulus_of_columns (root_inputs diagram attributes) column) n

-- which gives them back
abbrev pub ColumnsComeBack : Type 0
ColumnsComeBack =
    (diagram : Diagram) (attributes : Attributes) (column : ℕ → ℕ → ℤ) (place : ℕ) (e : RootElement)
    (t : ℕ) → IsWired diagram → slice_get (root_inputs diagram attributes) place ≡ Some e
    → stimulus_of_columns (root_inputs diagram attributes) column e.number e.element t ≡ column place t

-- a stimulus gives such columns
abbrev pub StimulusGivesColumns : Type 0
StimulusGivesColumns = (diagram : Diagram) (attributes : Attributes) (stimulus : Stimulus) (n : ℕ)
    → IsStimulus diagram attributes stimulus n → AreColumns (root_inputs diagram attributes) (column_of_stimulus (root_inputs diagram attributes) stimulus) n
