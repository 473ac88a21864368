-- The meaning of a diagram: the table of values that its equations allow (Simulink reference,
-- discrete simulation; own where no order or state is named).
use Rattle.std.specs.Prelude.{◌≡◌, ℕ, ◌<◌, ◌≤◌, Some, slice_get}
use Rattle.fx_type.specs.FxType.{InRange}
use Rattle.dg_model.specs.declared.diagram.Diagram.{Diagram}
use Rattle.dg_model.specs.declared.diagram.Block.{Block}
use Rattle.dg_model.specs.declared.kind.Kind.{Kind}
use Rattle.dg_model.specs.declared.row.Role.{Role}
use Rattle.dg_model.specs.Library.{row_of}
use Rattle.dg_model.specs.Signals.{Attributes, Stimulus, Table}
use Rattle.dg_model.specs.Hits.{Hits, last_hit}
use Rattle.dg_model.specs.Wires.{width_into}
use Rattle.dg_model.specs.Wired.{root_input}
use Rattle.dg_model.specs.Equation.{Equation}

-- the stimulus gives each root input element a number in range at each of its hits below n
pub record IsStimulus (diagram : Diagram) (attributes : Attributes) (stimulus : Stimulus)
    (n : ℕ) : Type 0 where
  pub in_range : (block : ℕ) (b : Block) (number element t : ℕ)
      → slice_get diagram.blocks block ≡ Some b
      → root_input (row_of b.kind).place.role ≡ Some number → element < attributes.width_at block 1
      → t < n → Hits (attributes.period_at block) t
      → InRange (attributes.type_at block 1) (stimulus number element t)

-- the ports at which a table shows a block of this role: its output ports, and port 1 for a root
-- output port
abbrev pub ports_of_role : Role → ℕ → ℕ
ports_of_role (Role.RootInput number) outputs = outputs
ports_of_role (Role.RootOutput number) outputs = 1
ports_of_role (Role.InnerPort width) outputs = outputs
ports_of_role Role.EnabledOutput outputs = outputs
ports_of_role Role.Control outputs = outputs
ports_of_role Role.Plain outputs = outputs

-- the same of a kind
abbrev pub shown_ports : Kind → ℕ → ℕ
shown_ports kind outputs = ports_of_role (row_of kind).place.role outputs

-- how many elements it shows there: those of the port, and for a root output port those of its
-- input
abbrev pub width_of_role : Diagram → Attributes → Role → ℕ → ℕ → ℕ
width_of_role diagram attributes (Role.RootInput number) block port = attributes.width_at block port
width_of_role diagram attributes (Role.RootOutput number) block port =
    width_into diagram attributes block 1
width_of_role diagram attributes (Role.InnerPort width) block port = attributes.width_at block port
width_of_role diagram attributes Role.EnabledOutput block port = attributes.width_at block port
width_of_role diagram attributes Role.Control block port = attributes.width_at block port
width_of_role diagram attributes Role.Plain block port = attributes.width_at block port

-- the same of a kind
abbrev pub shown_width : Diagram → Attributes → Kind → ℕ → ℕ → ℕ
shown_width diagram attributes kind block port =
    width_of_role diagram attributes (row_of kind).place.role block port

-- the table has an entry of the block at this port and element
pub record IsShown (diagram : Diagram) (attributes : Attributes) (block : ℕ) (b : Block)
    (port element : ℕ) : Type 0 where
  pub block_is : slice_get diagram.blocks block ≡ Some b
  pub port_from : 1 ≤ port
  pub port_to : port ≤ shown_ports b.kind b.outputs
  pub element_below : element < shown_width diagram attributes b.kind block port

-- below base sample n the table's entry at each hit is the equation's value, and between hits that
-- of the last hit
pub record Solves (diagram : Diagram) (attributes : Attributes) (stimulus : Stimulus) (n : ℕ)
    (table : Table) : Type 0 where
  pub at_hits : (block : ℕ) (b : Block) (port element t : ℕ)
      → IsShown diagram attributes block b port element → t < n
      → Hits (attributes.period_at block) t
      → Equation diagram attributes stimulus table block port element t (table block port element t)
  pub between_hits : (block : ℕ) (b : Block) (port element t : ℕ)
      → IsShown diagram attributes block b port element → t < n
      → ¬ Hits (attributes.period_at block) t
      → table block port element t
      ≡ table block port element (last_hit (attributes.period_at block) t)

-- two tables agree on what they show of a block at a base sample
abbrev pub AgreeAt : Diagram → Attributes → Table → Table → ℕ → ℕ → Type 0
AgreeAt diagram attributes table other block t =
    (b : Block) (port element : ℕ) → IsShown diagram attributes block b port element
    → table block port element t ≡ other block port element t

-- they agree on all that they show below base sample n
abbrev pub AgreeBelow : Diagram → Attributes → Table → Table → ℕ → Type 0
AgreeBelow diagram attributes table other n =
    (block t : ℕ) → t < n → AgreeAt diagram attributes table other block t
