-- The elements of the root inputs and of the root outputs in order of port numbers and elements:
-- columns of files, ports of a module and entries of a table are numbered by it, from 0 (own).
use Rattle.std.specs.Prelude.{◌≡◌, ◌<◌, ℕ, ℤ, pos, ◌==◌, ◌&&◌, Bool, false, List, [], length, map, filter_map, Option, Some, None, slice_get}
use Rattle.std.specs.List.{flat_map, position, position_or_len}
use Rattle.fx_type.specs.declared.kind.FxType.{FxType}
use Rattle.fx_type.specs.FxType.{InRange}
use Rattle.dg_model.specs.declared.diagram.Diagram.{Diagram}
use Rattle.dg_model.specs.declared.diagram.Block.{Block}
use Rattle.dg_model.specs.declared.row.Role.{Role}
use Rattle.dg_model.specs.Library.{row_of}
use Rattle.dg_model.specs.Signals.{Attributes, Stimulus}
use Rattle.dg_model.specs.Hits.{Hits}
use Rattle.math_list.specs.Numbers.{numbers_from}
use Rattle.dg_model.specs.Wires.{width_into}
use Rattle.dg_model.specs.Wired.{root_input, root_output}

-- an element of a root port: the number of the port, its block, the element's place, its type and
-- its period in base samples
pub record RootElement : Type 0 where
  pub number : ℕ
  pub block : ℕ
  pub element : ℕ
  pub type : FxType
  pub period : Option ℕ

-- the number of the root port that a block is, by which ports are asked for
abbrev pub number_in : (Role → Option ℕ) → Block → Option ℕ
number_in number_of block = number_of (row_of block.kind).place.role

-- a port has this number
abbrev pub is_number : ℕ → Option ℕ → Bool
is_number number None = false
is_number number (Some own) = own == number

-- a block is the port of this number
abbrev pub has_number : (Role → Option ℕ) → ℕ → Block → Bool
has_number number_of number block = is_number number (number_in number_of block)

-- the element of a root port of this number, which is this block
abbrev pub root_element : Attributes → ℕ → ℕ → ℕ → RootElement
root_element attributes number block element =
    record {
      number = number;
      block = block;
      element = element;
      type = attributes.type_at block 1;
      period = attributes.period_at block;
    }

-- the elements of the port of this number, whose block stands at this place
abbrev pub elements_of_port : Attributes → (ℕ → ℕ) → ℕ → Option ℕ → List RootElement
elements_of_port attributes width_of number None = []
elements_of_port attributes width_of number (Some block) =
    map (root_element attributes number block) (numbers_from 0 (width_of block))

-- those of all ports, by number
abbrev pub root_elements : (Role → Option ℕ) → (ℕ → ℕ) → Diagram → Attributes → List RootElement
root_elements number_of width_of diagram attributes =
    flat_map (λ number. elements_of_port attributes width_of number
    (position (has_number number_of number) diagram.blocks))
    (numbers_from 1 (length (filter_map (number_in number_of) diagram.blocks)))

-- the elements of the root inputs
abbrev pub root_inputs : Diagram → Attributes → List RootElement
root_inputs diagram attributes =
    root_elements root_input (λ block. attributes.width_at block 1) diagram attributes

-- the elements of the root outputs, which are as wide as their inputs
abbrev pub root_outputs : Diagram → Attributes → List RootElement
root_outputs diagram attributes =
    root_elements root_output (λ block. width_into diagram attributes block 1) diagram attributes

-- columns of numbers give each of these elements a number in range at each of its hits below n
abbrev pub AreColumns : List RootElement → (ℕ → ℕ → ℤ) → ℕ → Type 0
AreColumns elements column n =
    (place : ℕ) (e : RootElement) (t : ℕ) → slice_get elements place ≡ Some e → t < n
    → Hits e.period t → InRange e.type (column place t)

-- the number that a stimulus gives a root input element at base sample t
abbrev pub number_for : Stimulus → Option RootElement → ℕ → ℤ
number_for stimulus None t = pos 0
number_for stimulus (Some e) t = stimulus e.number e.element t

-- the same by the element's place in the list
abbrev pub column_of_stimulus : List RootElement → Stimulus → ℕ → ℕ → ℤ
column_of_stimulus elements stimulus place t = number_for stimulus (slice_get elements place) t

-- the stimulus of columns of numbers, one for each root input element in order
abbrev pub stimulus_of_columns : List RootElement → (ℕ → ℕ → ℤ) → Stimulus
stimulus_of_columns elements column number element t =
    column (position_or_len (λ e. (e.number == number) && (e.element == element)) elements) t
