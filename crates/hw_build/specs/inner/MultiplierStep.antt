-- What the step of shared multipliers leaves (own).
use Rattle.std.specs.Prelude.{◌≡◌, ℕ, ◌+◌, ◌<◌, ◌≤◌, true, [], length, Some, slice_get}
use Rattle.dg_model.specs.declared.diagram.Diagram.{Diagram}
use Rattle.dg_model.specs.declared.diagram.Block.{Block}
use Rattle.dg_model.specs.declared.resolved.Resolved.{Resolved}
use Rattle.dg_model.specs.Attributes.{attributes_of}
use Rattle.dg_model.specs.RootElements.{root_inputs}
use Rattle.hw_arcs.specs.Latencies.{latency_at}
use Rattle.hw_latency.specs.Shared.{is_shared}
use Rattle.hw_net.specs.declared.netlist.Frame.{Frame}
use Rattle.hw_net.specs.declared.netlist.Net.{Net}
use Rattle.hw_net.specs.Circuit.{Circuit}
use Rattle.hw_net.specs.Frames.{register_count, IsCounterAt}
use Rattle.hw_net.specs.Growing.{Extends}
use Rattle.hw_sched.specs.Ready.{units_in_all}
use Rattle.hw_sched.specs.Slots.{Timing as Times, shared_operations}
use Rattle.hw_build.specs.declared.products.Products.{Products}
use Rattle.hw_build.specs.Places.{Places}
use Rattle.hw_build.specs.Serving.{multipliers, others, unit_factors}
use Rattle.hw_build.specs.Times.{timing_by}
use Rattle.hw_build.specs.inner.ResultNets.{product_net, HaveProducts}
use Rattle.hw_build.specs.inner.UnderWay.{IsUnderWay}
use Rattle.hw_build.specs.inner.Units.{HaveUnits}

-- places are those of what ports offer and of products
pub record ArePlacedBy (offered : ℕ → ℕ → ℕ → ℕ) (products : Products)
    (places : Places) : Type 0 where
  pub offered_is : (block port element : ℕ)
      → places.offered block port element ≡ offered block port element
  pub product_is : (block element : ℕ)
      → places.product block element ≡ product_net products block element

-- the order of blocks has no more places than blocks
abbrev pub ArePlacesBelow : Diagram → (ℕ → ℕ) → Type 0
ArePlacesBelow diagram place_of =
    (block : ℕ) → block < length diagram.blocks → place_of block < length diagram.blocks

-- no net is a shared multiplier
abbrev pub HasNoUnits : Circuit → Type 0
HasNoUnits netlist =
    (k : ℕ) (net : Net) → slice_get netlist.nets k ≡ Some net → unit_factors net.kind ≡ []

module _ (diagram : Diagram) (plan : Resolved) (times : Times) where
  -- what was kept while a netlist is built is kept, and shared operations have their products and
  -- multipliers
  pub record IsSharedWay (places : Places) (place_of : ℕ → ℕ) (closed hubs : ℕ)
      (before after : Circuit) (level : ℕ → ℕ) (count : ℕ) : Type 0 where
    pub next : ℕ → ℕ
    pub way : IsUnderWay diagram
        (timing_by diagram plan times) places place_of closed hubs after next count
    pub same : (k : ℕ) → k < length before.nets → next k ≡ level k
    pub low : (block : ℕ) (b : Block) (element : ℕ) → slice_get diagram.blocks block ≡ Some b
        → is_shared diagram (attributes_of diagram) plan block ≡ true
        → element < (attributes_of diagram).width_at block 1
        → next (places.product block element) ≡ 0
    pub products : HaveProducts diagram plan times places closed hubs after
    pub units : HasNoUnits before → HaveUnits diagram plan times places closed hubs after

  -- a frame is that of a shared block
  pub record IsSharedFrame (frame : Frame) : Type 0 where
    pub block : ℕ
    pub there : block < length diagram.blocks
    pub moves : (attributes_of diagram).period_at block ≡ Some frame.period
    pub latency_is : frame.latency ≡ latency_at times.lat block

  pub record AddsProducts (offered : ℕ → ℕ → ℕ → ℕ) (before after : Circuit)
      (products : Products) : Type 0 where
    pub extends : Extends before after
    pub way : (places : Places) (place_of : ℕ → ℕ) (closed hubs : ℕ) (level : ℕ → ℕ) (count : ℕ)
        → ArePlacedBy offered products places
        → ArePlacesBelow diagram place_of
        → length before.inputs ≤ length (root_inputs diagram (attributes_of diagram))
        → IsUnderWay diagram
        (timing_by diagram plan times) places place_of closed hubs before level count
        → IsSharedWay places place_of closed hubs before after level count
    pub shared : HasNoUnits before
        → length (multipliers after) ≡ units_in_all diagram (attributes_of diagram) plan times
    pub own : length (others after) ≡ length (others before)
    pub registers : register_count after.nets ≡ register_count before.nets
        + length (shared_operations diagram (attributes_of diagram) plan)
    pub counters : (k : ℕ) (frame : Frame) → length before.nets ≤ k → IsCounterAt after.nets k frame
        → IsSharedFrame frame
