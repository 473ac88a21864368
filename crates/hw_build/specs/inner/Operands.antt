-- Where the nets stand that ends of blocks are offered, and what their registers have first (own).
use Rattle.std.specs.Prelude.{◌≡◌, ℕ, suc, ◌+◌, ◌-◌, ◌==◌, ◌&&◌, ◌||◌, min, nat_lt, ℤ, pos, Bool, if◌then◌else◌, List, [], ◌∷◌, Option, None, Some, slice_get, slice_index_or}
use Rattle.dg_model.specs.declared.diagram.Diagram.{Diagram}
use Rattle.dg_model.specs.declared.diagram.Block.{Block}
use Rattle.dg_model.specs.declared.diagram.Edge.{Edge}
use Rattle.dg_model.specs.Attributes.{attributes_of}
use Rattle.dg_model.specs.RootElements.{RootElement, root_inputs}
use Rattle.dg_model.specs.Solves.{IsShown}
use Rattle.hw_sched.specs.Chained.{initial_at}
use Rattle.hw_build.specs.declared.operands.Operands.{Operands}
use Rattle.hw_build.specs.declared.operands.Span.{Span}
use Rattle.hw_build.specs.Places.{Places}
use Rattle.hw_build.specs.inner.HubPlaces.{hub_at}

-- ---- lines by their numbers

-- a line ends at a block before this one, or at a port of this one before this port
abbrev pub is_line_before : ℕ → ℕ → Edge → Bool
is_line_before block port edge =
    nat_lt edge.to block || ((edge.to == block) && nat_lt edge.to_port port)

-- the place of the first of a list that isn't so
abbrev pub first_not : {A : Type 0} → (A → Bool) → List A → ℕ
first_not test [] = 0
first_not test (x ∷ xs) = if test x then suc (first_not test xs) else 0

-- the number of the line into a port
abbrev pub line_number : Diagram → ℕ → ℕ → ℕ
line_number diagram block port = first_not (is_line_before block port) diagram.edges

-- ---- nets

-- of an end the net of an element, past the last that of the last
abbrev pub net_in : List ℕ → Option Span → ℕ → ℕ
net_in nets None element = 0
net_in nets (Some span) element = slice_index_or nets (span.first + min element (span.count - 1)) 0

-- what an input port of a block offers to an element
abbrev pub offered_at : Diagram → Operands → ℕ → ℕ → ℕ → ℕ
offered_at diagram operands block port element =
    net_in operands.nets (slice_get operands.lines (line_number diagram block port)) element

-- what enables a block
abbrev pub enabled_by : Operands → ℕ → ℕ
enabled_by operands block = net_in operands.nets (slice_get operands.controls block) 0

-- ---- what registers have first

abbrev pub or_zero : Option ℤ → ℤ
or_zero None = pos 0
or_zero (Some v) = v

-- of a block, for an element, past the last that of the last: what its list has, stored in its type
abbrev pub first_of_block : Diagram → ℕ → ℕ → Option Block → ℤ
first_of_block diagram block element None = pos 0
first_of_block diagram block element (Some b) =
    or_zero (initial_at (attributes_of diagram) block b
    (min element ((attributes_of diagram).width_at block 1 - 1)))

abbrev pub first_at : Diagram → ℕ → ℕ → ℤ
first_at diagram block element =
    first_of_block diagram block element (slice_get diagram.blocks block)

-- ---- places

-- the places of a netlist whose hubs and whose ends have these nets
pub record AreLinePlaces (diagram : Diagram) (firsts : List (List ℕ)) (operands : Operands)
    (places : Places) : Type 0 where
  pub input : (k : ℕ) (e : RootElement)
      → slice_get (root_inputs diagram (attributes_of diagram)) k ≡ Some e
      → places.input e.number e.element ≡ k
  pub after : (block : ℕ) (b : Block) (port element : ℕ)
      → IsShown diagram (attributes_of diagram) block b port element
      → places.after block port element ≡ hub_at firsts block port element
  pub offered : (block port element : ℕ)
      → places.offered block port element ≡ offered_at diagram operands block port element
  pub enable : (block : ℕ) → places.enable block ≡ enabled_by operands block
  pub first : (block element : ℕ) → places.first block element ≡ first_at diagram block element
