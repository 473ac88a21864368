-- The places of the elements that were put in, and what the netlist then keeps (own).
use Rattle.std.specs.Prelude.{◌≡◌, ℕ, suc, ◌+◌, ◌<◌, ◌≤◌, ◌++◌, List, [], ◌∷◌, length, slice_get, slice_index_or, Some, true}
use Rattle.fx_type.specs.declared.kind.FxType.{FxType}
use Rattle.dg_model.specs.declared.diagram.Diagram.{Diagram}
use Rattle.dg_model.specs.declared.diagram.Block.{Block}
use Rattle.dg_model.specs.declared.diagram.Edge.{Edge}
use Rattle.dg_model.specs.declared.nested.Target.TheVariants.{Port}
use Rattle.dg_model.specs.Attributes.{attributes_of}
use Rattle.dg_model.specs.LatencyEdges.{asks_ever}
use Rattle.dg_model.specs.Library.{row_of}
use Rattle.dg_model.specs.RootElements.{root_inputs}
use Rattle.dg_model.specs.Solves.{IsShown, shown_ports}
use Rattle.dg_model.specs.Wires.{driver_of}
use Rattle.hw_net.specs.Circuit.{Circuit}
use Rattle.hw_net.specs.Growing.{IsConnected}
use Rattle.hw_shows.specs.Timing.{Timing}
use Rattle.hw_shows.specs.Timed.{lag_into}
use Rattle.hw_build.specs.Places.{Places}
use Rattle.hw_build.specs.declared.pipelines.Piped.{Piped}
use Rattle.hw_build.specs.inner.Facts.{line_count, IsElementMade, IsElementPiped}
use Rattle.hw_build.specs.inner.Growth.{GoesOn}
use Rattle.hw_build.specs.inner.HubPlaces.{hub_at, hub_of}
use Rattle.hw_build.specs.inner.PipelineNets.{IsPipedBy}
use Rattle.hw_build.specs.inner.UnderWay.{IsUnderWay, hub_level}

-- where the nets of elements stand, by the number of the net that their readers name: the element
-- itself, the first register of its state, and what its pipeline begins with; the registers stand
-- behind these
pub record Spots : Type 0 where
  pub entries : List ℕ
  pub states : List ℕ
  pub stages : List ℕ

-- those of one more element
abbrev pub with_spot : Spots → ℕ → ℕ → ℕ → Spots
with_spot spots entry state stage =
    record {
      entries = spots.entries ++ entry ∷ [];
      states = spots.states ++ state ∷ [];
      stages = spots.stages ++ stage ∷ [];
    }

-- what places say of the elements so far, whose readers name the first nets
pub record AreSpotted (diagram : Diagram) (firsts : List (List ℕ)) (spots : Spots)
    (places : Places) : Type 0 where
  pub entry : (block : ℕ) (b : Block) (port element : ℕ)
      → IsShown diagram (attributes_of diagram) block b port element
      → hub_at firsts block port element < length spots.entries
      → places.entry block port element
      ≡ slice_index_or spots.entries (hub_at firsts block port element) 0
  pub stage : (block : ℕ) (b : Block) (port element k : ℕ)
      → IsShown diagram (attributes_of diagram) block b port element
      → hub_at firsts block port element < length spots.stages
      → places.stage block port element k
      ≡ slice_index_or spots.stages (hub_at firsts block port element) 0 + k
  pub state : (block : ℕ) (b : Block) (port element k : ℕ)
      → IsShown diagram (attributes_of diagram) block b port element
      → asks_ever (row_of b.kind).timing.asks ≡ true
      → hub_at firsts block port element < length spots.states
      → places.state block element (suc k)
      ≡ slice_index_or spots.states (hub_at firsts block port element) 0 + k
  pub begins : (block element : ℕ) → places.state block element 0 ≡ places.offered block 1 element

-- the three lists are of one length
pub record AreEven (spots : Spots) : Type 0 where
  pub states : length spots.states ≡ length spots.entries
  pub stages : length spots.stages ≡ length spots.entries

-- a net that readers name has no argument yet, and stands on the level of its block
pub record IsWaiting (now : Circuit) (level : ℕ → ℕ) (place hub : ℕ) (type : FxType) : Type 0 where
  pub at : slice_get now.nets hub ≡ Some (hub_of type)
  pub level_is : level hub ≡ hub_level place

-- the netlist under way: of these places the elements are made whose readers' nets have their
-- arguments, and the others wait
pub record IsGoing (diagram : Diagram) (timing : Timing) (places : Places) (place_of : ℕ → ℕ)
    (begun : ℕ) (start : Circuit) (closed hubs : ℕ) (now : Circuit) (level : ℕ → ℕ) : Type 0 where
  -- it has become of the one at which the elements began
  pub since : GoesOn begun hubs start now
  pub on : begun ≤ closed
  pub way : IsUnderWay diagram timing places place_of closed hubs now level 0
  pub few : length now.inputs ≤ length (root_inputs diagram (attributes_of diagram))
  -- what an end with registers is offered reads nothing in its own clock
  pub late : (block : ℕ) (b : Block) (port element : ℕ) (edge : Edge) (source lag : ℕ)
      → slice_get diagram.blocks block ≡ Some b
      → 1 ≤ shown_ports b.kind b.outputs → 1 ≤ port → port ≤ b.inputs
      → driver_of diagram block port ≡ Some edge
      → element < line_count diagram block b port edge
      → (attributes_of diagram).period_at edge.from ≡ Some source
      → lag_into diagram (attributes_of diagram) block b (Port port) source ≡ Some lag
      → level (places.offered block port element) ≡ 0
  -- nor does the product of a shared multiplier
  pub low : (block : ℕ) (b : Block) (element slot : ℕ) → slice_get diagram.blocks block ≡ Some b
      → element < (attributes_of diagram).width_at block 1
      → timing.slot block element ≡ Some slot → (places.product block element < length now.nets)
      × (level (places.product block element) ≡ 0)
  pub waits : (block : ℕ) (b : Block) (port element : ℕ)
      → IsShown diagram (attributes_of diagram) block b port element
      → closed ≤ places.after block port element
      → IsWaiting now level (place_of block) (places.after block port element)
      ((attributes_of diagram).type_at block 1)
  pub made : (block : ℕ) (b : Block) (port element : ℕ)
      → IsShown diagram (attributes_of diagram) block b port element
      → places.after block port element < closed
      → IsElementMade diagram timing places closed hubs now block b port element
  pub piped : (block : ℕ) (b : Block) (port element : ℕ)
      → IsShown diagram (attributes_of diagram) block b port element
      → places.after block port element < closed
      → IsElementPiped diagram timing places closed hubs now block port element

-- a pipeline was put behind an element, and its end is what the net of this number passes on
pub record IsClosedBy (diagram : Diagram) (timing : Timing) (before after : Circuit)
    (hub block element entry : ℕ) : Type 0 where
  pub piped : Piped
  pub middle : Circuit
  pub put : IsPipedBy diagram timing before middle block element entry piped
  pub connected : IsConnected middle after hub piped.end
