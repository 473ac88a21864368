-- What the step of elements leaves (own).
use Rattle.std.specs.Prelude.{◌≡◌, ℕ, ◌<◌, true, length, Some, slice_get}
use Rattle.dg_model.specs.declared.diagram.Diagram.{Diagram}
use Rattle.dg_model.specs.declared.diagram.Block.{Block}
use Rattle.dg_model.specs.declared.resolved.Resolved.{Resolved}
use Rattle.dg_model.specs.Attributes.{attributes_of}
use Rattle.dg_model.specs.Loop.{LeadsNow}
use Rattle.dg_model.specs.RootElements.{root_inputs}
use Rattle.hw_latency.specs.Shared.{is_shared}
use Rattle.hw_net.specs.Circuit.{Circuit}
use Rattle.hw_sched.specs.Slots.{Timing as Times}
use Rattle.hw_build.specs.Places.{Places}
use Rattle.hw_build.specs.Times.{timing_by}
use Rattle.hw_build.specs.inner.HubPlaces.{hubs_in_all, start_level}
use Rattle.hw_build.specs.inner.LineStep.{LateAreLow}
use Rattle.hw_build.specs.inner.ResultNets.{HaveProducts}
use Rattle.hw_build.specs.inner.UnderWay.{IsUnderWay}
use Rattle.hw_build.specs.inner.Units.{HaveUnits}

-- blocks have places, each behind those from which instant edges lead to it
pub record ArePlacedInOrder (diagram : Diagram) (place_of : ℕ → ℕ) : Type 0 where
  pub below : (block : ℕ) → block < length diagram.blocks → place_of block < length diagram.blocks
  pub rise : (from to : ℕ) → to < length diagram.blocks
      → LeadsNow diagram (attributes_of diagram) from to → place_of from < place_of to

module _ (diagram : Diagram) (plan : Resolved) (times : Times) where
  -- the results of shared multipliers read nothing in their clock
  pub record ProductsAreLow (places : Places) (level : ℕ → ℕ) : Type 0 where
    pub each : (block : ℕ) (b : Block) (element : ℕ) → slice_get diagram.blocks block ≡ Some b
        → is_shared diagram (attributes_of diagram) plan block ≡ true
        → element < (attributes_of diagram).width_at block 1
        → level (places.product block element) ≡ 0

  -- how a netlist stands before the elements
  pub record IsReady (places : Places) (place_of : ℕ → ℕ) (now : Circuit)
      (level : ℕ → ℕ) : Type 0 where
    pub way : IsUnderWay diagram
        (timing_by diagram plan times) places
        place_of (length (root_inputs diagram (attributes_of diagram)))
        (hubs_in_all diagram) now level 0
    pub same : (k : ℕ) → k < hubs_in_all diagram → level k ≡ start_level diagram place_of k
    pub late : LateAreLow diagram places level
    pub products : HaveProducts diagram plan times places
        (length (root_inputs diagram (attributes_of diagram))) (hubs_in_all diagram) now
    pub low : ProductsAreLow places level
    pub units : HaveUnits diagram plan times places
        (length (root_inputs diagram (attributes_of diagram))) (hubs_in_all diagram) now
