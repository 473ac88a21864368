-- What a diagram's signals are, as functions of a place and a moment (own). A block is named by its
-- place in the diagram's list, from 0, a port by its number, from 1, an element by its place in the
-- signal, from 0, and a base sample by its number, from 0.
use Rattle.std.specs.Prelude.{ℕ, ℤ, Option}
use Rattle.fx_type.specs.declared.kind.FxType.{FxType}

-- a block's place in the diagram's list
abbrev pub BlockPlace : Type 0
BlockPlace = ℕ

-- the number of a port of a block, or of a root Inport or Outport
abbrev pub PortNumber : Type 0
PortNumber = ℕ

-- an element's place in a signal
abbrev pub ElementPlace : Type 0
ElementPlace = ℕ

-- the number of a base sample
abbrev pub Sample : Type 0
Sample = ℕ

-- the stored integer at a block, an output port, an element and a base sample; a root Outport
-- stands at port 1
abbrev pub Table : Type 0
Table = BlockPlace → PortNumber → ElementPlace → Sample → ℤ

-- the stored integer that the root Inport of a number takes at an element and a base sample
abbrev pub Stimulus : Type 0
Stimulus = PortNumber → ElementPlace → Sample → ℤ

-- what is known of the blocks before any value is
pub record Attributes : Type 0 where
  -- how many elements the signal at a block and an output port has
  pub width_at : ℕ → ℕ → ℕ
  -- the type of these elements
  pub type_at : ℕ → ℕ → FxType
  -- the type of a Gain's coefficients
  pub param_at : ℕ → FxType
  -- a block's period in base samples, or none where its value never changes
  pub period_at : ℕ → Option ℕ
