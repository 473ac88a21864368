-- What is counted and named while elements are put in (own).
use Rattle.std.specs.Prelude.{◌≡◌, ◌≢◌, ◌^◌, AllPairs, ℕ, zero, suc, ◌+◌, ◌-◌, ◌*◌, ◌<◌, ◌≤◌, ◌&&◌, not, nat_lt, if◌then◌else◌, List, [], ◌∷◌, length, Contains, Option, None, Some, slice_get, slice_index_or}
use Rattle.dg_model.specs.declared.diagram.Diagram.{Diagram}
use Rattle.dg_model.specs.declared.diagram.Block.{Block}
use Rattle.dg_model.specs.declared.resolved.Resolved.{Resolved}
use Rattle.dg_model.specs.Attributes.{attributes_of}
use Rattle.dg_model.specs.RootElements.{root_inputs}
use Rattle.dg_model.specs.Solves.{IsShown}
use Rattle.hw_latency.specs.Shared.{multiplies, is_shared}
use Rattle.hw_net.specs.declared.netlist.Net.{Net}
use Rattle.hw_net.specs.declared.netlist.NetKind.TheVariants.{Comb}
use Rattle.hw_net.specs.declared.netlist.NetLabel.{NetLabel}
use Rattle.hw_net.specs.declared.netlist.NetOp.TheVariants.{Multiply}
use Rattle.hw_net.specs.Circuit.{Circuit}
use Rattle.hw_net.specs.Frames.{register_count}
use Rattle.hw_net.specs.Netlist.{reads}
use Rattle.hw_sched.specs.Storage.{registers_each}
use Rattle.hw_shows.specs.Timing.{Timing}
use Rattle.hw_build.specs.Multiplied.{multiplication_name, IsMultiplied}
use Rattle.hw_build.specs.Pipelined.{stage_name}
use Rattle.hw_build.specs.Serving.{multipliers, others}
use Rattle.hw_build.specs.inner.HubPlaces.{before, hub_at, owner_of}
use Rattle.hw_build.specs.inner.PipelineNets.{own_frame, stage_net, wire_of}
use Rattle.hw_build.specs.inner.Unread.{AreReadInTurn}
use Rattle.hw_build.specs.inner.Spots.{Spots}

-- all nets read nets that are there
pub record ReadThere (nets : List Net) : Type 0 where
  pub each : (k : ℕ) (net : Net) (i read : ℕ) → slice_get nets k ≡ Some net
      → slice_get (reads net.kind) i ≡ Some read → read < length nets

-- behind a wire stand the registers of a block's plan for an element, with their names, and none
-- but the next one reads the wire and all but the last
pub record IsPipelineAt (diagram : Diagram) (timing : Timing) (fence : ℕ) (now : Circuit)
    (block element period begin : ℕ) : Type 0 where
  pub past : fence ≤ begin
  pub size : begin + timing.stages block < length now.nets
  pub entry : ℕ
  pub wire : slice_get now.nets begin
      ≡ Some (wire_of ((attributes_of diagram).type_at block 1) entry)
  pub stage : (k : ℕ) → k < timing.stages block
      → slice_get now.nets (begin + suc k)
      ≡ Some (stage_net ((attributes_of diagram).type_at block 1) (own_frame timing period block)
      (period * timing.cycles - 1) (begin + k))
  pub turn : AreReadInTurn now.nets begin (begin + timing.stages block)
  pub named : (k : ℕ) → k < timing.stages block
      → Contains now.labels
      (record { net = begin + suc k; name = stage_name block element (suc k) })

module _ (diagram : Diagram) (plan : Resolved) where
  -- the registers of an element of a block
  abbrev pub registers_by : ℕ → Option Block → ℕ
  registers_by block None = 0
  registers_by block (Some b) = registers_each diagram (attributes_of diagram) plan block b

  -- by the number of the net that readers name
  abbrev pub hub_registers : ℕ → ℕ
  hub_registers k =
      if nat_lt k (length (root_inputs diagram (attributes_of diagram))) then 0
      else registers_by (owner_of diagram k) (slice_get diagram.blocks (owner_of diagram k))

  -- the multiplications of its own
  abbrev pub products_by : ℕ → ℕ
  products_by block =
      if multiplies diagram block && not (is_shared diagram (attributes_of diagram) plan block)
      then 1 else 0

  abbrev pub hub_products : ℕ → ℕ
  hub_products k =
      if nat_lt k (length (root_inputs diagram (attributes_of diagram))) then 0
      else products_by (owner_of diagram k)

-- the number is that of a multiplication
pub record IsOwnProduct (now : Circuit) (multiply : Option ℕ) : Type 0 where
  pub number : ℕ
  pub told : multiply ≡ Some number
  pub net : Net
  pub args : List ℕ
  pub is : slice_get now.nets number ≡ Some net
  pub kind : net.kind ≡ Comb Multiply args

-- the name of a multiplication of its own, if an element has one
abbrev pub product_labels : ℕ → ℕ → Option ℕ → List NetLabel
product_labels block element None = []
product_labels block element (Some number) =
    record { net = number; name = multiplication_name block element } ∷ []

-- the names of an element's nets: of its multiplication, and of its registers from 1
abbrev pub name_by : ℕ → ℕ → ℕ → List ℕ
name_by block element zero = multiplication_name block element
name_by block element (suc k) = stage_name block element (suc k)

-- a name is one of an element whose readers' net is among the first so many
pub record IsNameOf (firsts : List (List ℕ)) (closed : ℕ) (name : List ℕ) : Type 0 where
  pub block : ℕ
  pub element : ℕ
  pub tag : ℕ
  pub small_block : block < 2 ^ 64
  pub small_element : element < 2 ^ 64
  pub small_tag : tag < 2 ^ 64
  pub is : name ≡ name_by block element tag
  pub early : hub_at firsts block 1 element < closed

-- the labels are of nets that are there, each net and each name once
pub record AreLabelled (firsts : List (List ℕ)) (labels : List NetLabel)
    (size closed : ℕ) : Type 0 where
  pub low : (label : NetLabel) → Contains labels label → label.net < size
  pub named : (label : NetLabel) → Contains labels label → IsNameOf firsts closed label.name
  pub nets_differ : AllPairs (λ one other. one.net ≢ other.net) labels
  pub names_differ : AllPairs (λ one other. one.name ≢ other.name) labels

-- since the elements began, so many registers and multiplications were put in, and these pipelines
pub record AreTallied (diagram : Diagram) (plan : Resolved) (timing : Timing)
    (firsts : List (List ℕ)) (start now : Circuit) (spots : Spots) : Type 0 where
  pub more : length start.nets ≤ length now.nets
  pub there : ReadThere now.nets
  pub pipelines : (block : ℕ) (b : Block) (port element period : ℕ)
      → IsShown diagram (attributes_of diagram) block b port element
      → hub_at firsts block port element < length spots.entries
      → (attributes_of diagram).period_at block ≡ Some period → 0 < timing.stages block
      → IsPipelineAt diagram timing (length start.nets) now block element period
      (slice_index_or spots.stages (hub_at firsts block port element) 0)
  pub registers : register_count now.nets ≤ register_count start.nets
      + before (hub_registers diagram plan) (length spots.entries)
  pub own : length (others now) ≡ length (others start)
      + before (hub_products diagram plan) (length spots.entries)
  pub shared : multipliers now ≡ multipliers start
  pub labelled : AreLabelled firsts now.labels (length now.nets) (length spots.entries)
  pub multiplied : (block : ℕ) (b : Block) (element : ℕ)
      → IsShown diagram (attributes_of diagram) block b 1 element
      → hub_at firsts block 1 element < length spots.entries → products_by diagram plan block ≡ 1
      → IsMultiplied now (multiplication_name block element)
