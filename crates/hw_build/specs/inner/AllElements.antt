-- What stands in a netlist whose blocks all have their elements, before its ports (own).
use Rattle.std.specs.Prelude.{◌≡◌, ℕ, ◌+◌, ◌<◌, ◌≤◌, List, [], length, Contains, Some, slice_get}
use Rattle.dg_model.specs.declared.diagram.Diagram.{Diagram}
use Rattle.dg_model.specs.declared.diagram.Block.{Block}
use Rattle.dg_model.specs.declared.resolved.Resolved.{Resolved}
use Rattle.dg_model.specs.Attributes.{attributes_of}
use Rattle.dg_model.specs.RootElements.{RootElement, root_inputs}
use Rattle.dg_model.specs.Solves.{IsShown}
use Rattle.hw_net.specs.declared.netlist.NetPort.{NetPort}
use Rattle.hw_net.specs.Circuit.{Circuit}
use Rattle.hw_net.specs.Frames.{register_count}
use Rattle.hw_sched.specs.Chained.{chained}
use Rattle.hw_sched.specs.Ready.{units_in_all, unshared}
use Rattle.hw_sched.specs.Slots.{Timing as Times}
use Rattle.hw_net.specs.Emittable.{AreLabels}
use Rattle.hw_build.specs.Built.{counter_count}
use Rattle.hw_build.specs.Multiplied.{AreMultiplied}
use Rattle.hw_build.specs.Pipelined.{ArePipelined}
use Rattle.hw_build.specs.Places.{Places}
use Rattle.hw_build.specs.Serving.{multipliers, others}
use Rattle.hw_build.specs.Times.{timing_by}
use Rattle.hw_build.specs.inner.HubPlaces.{hub_at, hubs_in_all}
use Rattle.hw_build.specs.inner.UnderWay.{IsUnderWay}
use Rattle.hw_build.specs.inner.Units.{HaveUnits}

-- the places of root inputs and of what readers name are those of the hubs
pub record AreHubPlaces (diagram : Diagram) (firsts : List (List ℕ)) (places : Places) : Type 0 where
  pub input : (k : ℕ) (e : RootElement) → slice_get (root_inputs diagram (attributes_of diagram)) k ≡ Some e → places.input e.number e.element ≡ k
  pub after : (block : ℕ) (b : Block) (port element : ℕ) → IsShown diagram (attributes_of diagram) block b port element → places.after block port element ≡ hub_at firsts block port element

-- the pipelines of every netlist that has these nets and names, and whose outputs are among what
-- readers name
pub record ArePipes (diagram : Diagram) (plan : Resolved) (places : Places) (now : Circuit) : Type 0 where
  pub each : (later : Circuit) → later.nets ≡ now.nets → later.labels ≡ now.labels
      → ((port : NetPort) → Contains later.outputs port → port.net < hubs_in_all diagram) → ArePipelined diagram plan later places

pub record IsFilled (diagram : Diagram) (plan : Resolved) (times : Times) (firsts : List (List ℕ)) (places : Places) (place_of : ℕ → ℕ) (now : Circuit) : Type 0 where
  pub no_inputs : now.inputs ≡ []
  pub no_outputs : now.outputs ≡ []
  pub hubs : AreHubPlaces diagram firsts places
  pub level : ℕ → ℕ
  pub way : IsUnderWay diagram (timing_by diagram plan times) places place_of (hubs_in_all diagram) (hubs_in_all diagram) now level (length diagram.blocks)
  pub units : HaveUnits diagram plan times places (hubs_in_all diagram) (hubs_in_all diagram) now
  pub shared : length (multipliers now) ≡ units_in_all diagram (attributes_of diagram) plan times
  pub own : length (others now) ≡ unshared diagram (attributes_of diagram) plan
  pub multiplied : AreMultiplied diagram plan now
  pub pipes : ArePipes diagram plan places now
  pub labels : AreLabels (length now.nets) now.labels
  pub few : register_count now.nets + counter_count now.nets ≤ chained diagram (attributes_of diagram) plan times
