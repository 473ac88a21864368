-- A netlist whose blocks all have their elements is done.
use Rattle.std.proofs.Common.{◌≡◌, ℕ, ◌+◌, ◌<◌, ◌≤◌, length, sym, subst}
use Rattle.dg_model.specs.declared.diagram.Diagram.{Diagram}
use Rattle.dg_model.specs.declared.resolved.Resolved.{Resolved}
use Rattle.dg_model.specs.Attributes.{attributes_of}
use Rattle.hw_net.specs.Circuit.{Circuit}
use Rattle.hw_net.specs.Frames.{register_count}
use Rattle.hw_sched.specs.Chained.{chained}
use Rattle.hw_sched.specs.Ready.{units_in_all, unshared}
use Rattle.hw_sched.specs.Slots.{Timing as Times}
use Rattle.hw_net.specs.Emittable.{IsEmittable}
use Rattle.hw_build.specs.Built.{counter_count}
use Rattle.hw_build.specs.Multiplied.{AreMultiplied}
use Rattle.hw_build.specs.Pipelined.{ArePipelined}
use Rattle.hw_build.specs.Places.{Places}
use Rattle.hw_build.specs.Ports.{HasPorts}
use Rattle.hw_build.specs.Serving.{multipliers, others}
use Rattle.hw_build.specs.Times.{timing_by}
use Rattle.hw_build.specs.inner.Done.{IsDone}
use Rattle.hw_build.specs.inner.Soundness.{AreSound}
use Rattle.hw_build.specs.inner.UnderWay.{IsUnderWay}
use Rattle.hw_build.specs.inner.Units.{HaveUnits}
use Rattle.hw_build.proofs.Runnable.{netlist_runs}

pub finished : (diagram : Diagram) (plan : Resolved) (times : Times) (places : Places) (place_of : ℕ → ℕ) (hubs : ℕ)
    (netlist : Circuit) (level : ℕ → ℕ) → 0 < netlist.cycles
    → IsUnderWay diagram (timing_by diagram plan times) places place_of hubs hubs netlist level
    (length diagram.blocks)
    → HaveUnits diagram plan times places hubs hubs netlist
    → length (multipliers netlist) ≡ units_in_all diagram (attributes_of diagram) plan times
    → length (others netlist) ≡ unshared diagram (attributes_of diagram) plan
    → AreMultiplied diagram plan netlist → ArePipelined diagram plan netlist places
    → HasPorts diagram plan times netlist places → IsEmittable netlist
    → register_count netlist.nets + counter_count netlist.nets ≤ chained diagram (attributes_of diagram) plan times → IsDone diagram plan times places hubs netlist
finished diagram plan times places place_of hubs netlist level some way units shared own multiplied pipelined ports emittable few = record {
  facts = way.facts;
  units = units;
  shared = shared;
  own = own;
  multiplied = multiplied;
  pipelined = pipelined;
  ports = ports;
  runs = netlist_runs diagram plan times places hubs netlist level some (subst (AreSound hubs hubs netlist) (sym ports.input_count) way.sound) way.levelled way.facts.inputs ports;
  emittable = emittable;
  few = few;
}
