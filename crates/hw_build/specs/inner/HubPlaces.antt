-- Where the nets stand that readers name: first one for each root input element, then those of the
-- other blocks in order, port by port (own).
use Rattle.std.specs.Prelude.{◌≡◌, ℕ, zero, suc, ◌+◌, ◌-◌, ◌^◌, ◌<◌, ◌≤◌, Bool, true, false, nat_lt, if◌then◌else◌, List, [], ◌∷◌, length, Option, None, Some, slice_get, slice_index_or, is_some}
use Rattle.fx_type.specs.declared.kind.FxType.{FxType}
use Rattle.fx_type.specs.FxType.{is_signed, width_of}
use Rattle.dg_model.specs.declared.diagram.Diagram.{Diagram}
use Rattle.dg_model.specs.declared.diagram.Block.{Block}
use Rattle.dg_model.specs.declared.row.Role.{Role}
use Rattle.dg_model.specs.Library.{row_of}
use Rattle.dg_model.specs.Attributes.{attributes_of}
use Rattle.dg_model.specs.RootElements.{RootElement, root_inputs}
use Rattle.dg_model.specs.Solves.{IsShown, shown_ports, shown_width}
use Rattle.dg_model.specs.Widths.{width_at}
use Rattle.dg_model.specs.Wired.{root_input, root_output}
use Rattle.hw_net.specs.declared.netlist.Net.{Net}
use Rattle.hw_net.specs.declared.netlist.NetKind.TheVariants.{Comb}
use Rattle.hw_net.specs.declared.netlist.NetOp.TheVariants.{Input, Resize}
use Rattle.hw_net.specs.Circuit.{Circuit}
use Rattle.hw_net.specs.Growing.{Extends}
use Rattle.hw_build.specs.inner.UnderWay.{hub_level}

-- the sum of the first so many
abbrev pub before : (ℕ → ℕ) → ℕ → ℕ
before size zero = 0
before size (suc n) = before size n + size n

-- a net that is to show an element of this type, without an argument yet
abbrev pub hub_of : FxType → Net
hub_of type = record { signed = is_signed type; width = width_of type; kind = Comb Resize [] }

-- one that shows an input port
abbrev pub input_net : FxType → ℕ → Net
input_net type port =
    record { signed = is_signed type; width = width_of type; kind = Comb (Input port) [] }

-- a root input port
abbrev pub is_input_role : Role → Bool
is_input_role role = is_some (root_input role)

-- a root output port
abbrev pub is_output_role : Role → Bool
is_output_role role = is_some (root_output role)

module _ (diagram : Diagram) where
  -- how many elements a block shows at a port, from 0
  abbrev pub port_size : ℕ → Block → ℕ → ℕ
  port_size block b port = shown_width diagram (attributes_of diagram) b.kind block (suc port)

  -- how many nets of its own a block has; those of a root input port are its inputs
  abbrev pub own_count : ℕ → Option Block → ℕ
  own_count block None = 0
  own_count block (Some b) =
      if is_input_role (row_of b.kind).place.role then 0
      else before (port_size block b) (shown_ports b.kind b.outputs)

  abbrev pub own_hubs : ℕ → ℕ
  own_hubs block = own_count block (slice_get diagram.blocks block)

  -- the number of the first
  abbrev pub hub_start : ℕ → ℕ
  hub_start block = length (root_inputs diagram (attributes_of diagram)) + before own_hubs block

  -- how many there are
  abbrev pub hubs_in_all : ℕ
  hubs_in_all = hub_start (length diagram.blocks)

-- of the first so many blocks with so many nets each the one to which a net belongs
abbrev pub owner_in : (ℕ → ℕ) → ℕ → ℕ → ℕ
owner_in size zero k = 0
owner_in size (suc n) k = if nat_lt k (before size n) then owner_in size n k else n

-- the block to which a net belongs
abbrev pub owner_of : Diagram → ℕ → ℕ
owner_of diagram k =
    owner_in (own_hubs diagram) (length diagram.blocks)
    (k - length (root_inputs diagram (attributes_of diagram)))

-- the level of each of these nets
abbrev pub start_level : Diagram → (ℕ → ℕ) → ℕ → ℕ
start_level diagram place_of k =
    if nat_lt k (length (root_inputs diagram (attributes_of diagram))) then 0
    else hub_level (place_of (owner_of diagram k))

-- the number of an element's: the first of its port, and its place there
abbrev pub hub_at : List (List ℕ) → ℕ → ℕ → ℕ → ℕ
hub_at firsts block port element = width_at firsts block port + element

-- ---- what is put in

-- a net without an argument yet, of a number of 32 bits
abbrev pub IsFresh : Circuit → ℕ → FxType → Type 0
IsFresh netlist k type = (slice_get netlist.nets k ≡ Some (hub_of type)) × (k < 2 ^ 32)

-- so many of them were put behind the others
pub record AddsFresh (earlier later : Circuit) (count : ℕ) (type : FxType) : Type 0 where
  pub extends : Extends earlier later
  pub size : length later.nets ≡ length earlier.nets + count
  pub each : (k : ℕ) → length earlier.nets ≤ k → k < length later.nets → IsFresh later k type

-- those of the first ports of a block, by how many each has and by the first of each
pub record AddsPorts (earlier later : Circuit) (type : FxType) (size : ℕ → ℕ) (firsts : List ℕ)
    (ports : ℕ) : Type 0 where
  pub adds : AddsFresh earlier later (before size ports) type
  pub count : length firsts ≡ ports
  pub places : (port : ℕ) → port < ports
      → slice_index_or firsts port 0 ≡ length earlier.nets + before size port

-- the first of each port of a block, whose own begin here; of a root input port it is this column
pub record AreFirsts (diagram : Diagram) (start column block : ℕ) (b : Block)
    (firsts : List ℕ) : Type 0 where
  pub input : is_input_role (row_of b.kind).place.role ≡ true → firsts ≡ column ∷ []
  pub size : is_input_role (row_of b.kind).place.role ≡ false
      → length firsts ≡ shown_ports b.kind b.outputs
  pub other : is_input_role (row_of b.kind).place.role ≡ false → (port : ℕ)
      → port < shown_ports b.kind b.outputs
      → slice_index_or firsts port 0 ≡ start + before (port_size diagram block b) port

pub record AddsBlock (diagram : Diagram) (earlier later : Circuit) (column block : ℕ) (b : Block)
    (firsts : List ℕ) : Type 0 where
  pub adds : AddsFresh earlier later (own_count diagram block (Some b))
      ((attributes_of diagram).type_at block 1)
  pub are : AreFirsts diagram (length earlier.nets) column block b firsts

-- those of the first blocks
pub record AddsBlocks (diagram : Diagram) (earlier later : Circuit) (columns : List ℕ)
    (firsts : List (List ℕ)) (blocks : ℕ) : Type 0 where
  pub count : length firsts ≡ blocks
  pub extends : Extends earlier later
  pub size : length later.nets ≡ hub_start diagram blocks
  pub fresh : (block : ℕ) (b : Block) (k : ℕ) → block < blocks
      → slice_get diagram.blocks block ≡ Some b → hub_start diagram block ≤ k
      → k < hub_start diagram (suc block)
      → IsFresh later k ((attributes_of diagram).type_at block 1)
  pub are : (block : ℕ) (b : Block) → block < blocks → slice_get diagram.blocks block ≡ Some b
      → AreFirsts diagram (hub_start diagram block) (slice_index_or columns block 0) block b
      (slice_index_or firsts block [])

-- a net for each of the first root inputs, whose blocks these are, in an empty netlist
pub record AddsInputs (diagram : Diagram) (earlier later : Circuit) (inputs : List ℕ)
    (count : ℕ) : Type 0 where
  pub extends : Extends earlier later
  pub size : length later.nets ≡ count
  pub each : (k block : ℕ) → k < count → slice_get inputs k ≡ Some block
      → slice_get later.nets k ≡ Some (input_net ((attributes_of diagram).type_at block 1) k)

-- ---- all of it

pub record HasHubs (diagram : Diagram) (earlier later : Circuit)
    (firsts : List (List ℕ)) : Type 0 where
  pub extends : Extends earlier later
  pub size : length later.nets ≡ hubs_in_all diagram
  pub inputs : (k : ℕ) (e : RootElement)
      → slice_get (root_inputs diagram (attributes_of diagram)) k ≡ Some e
      → slice_get later.nets k ≡ Some (input_net e.type k)
  pub fresh : (block : ℕ) (b : Block) (k : ℕ) → slice_get diagram.blocks block ≡ Some b
      → hub_start diagram block ≤ k
      → k < hub_start diagram (suc block)
      → IsFresh later k ((attributes_of diagram).type_at block 1)
  pub there : (block : ℕ) (b : Block) (port : ℕ) → slice_get diagram.blocks block ≡ Some b
      → 1 ≤ port → port ≤ shown_ports b.kind b.outputs
      → port - 1 < length (slice_index_or firsts block [])
  pub of_inputs : (k : ℕ) (e : RootElement)
      → slice_get (root_inputs diagram (attributes_of diagram)) k ≡ Some e
      → hub_at firsts e.block 1 e.element ≡ k
  pub of_others : (block : ℕ) (b : Block) (port element : ℕ)
      → IsShown diagram (attributes_of diagram) block b port element
      → is_input_role (row_of b.kind).place.role ≡ false
      → hub_at firsts block port element ≡ hub_start diagram block
      + before (port_size diagram block b) (port - 1) + element
