-- What the steps leave of a netlist whose hubs are all closed (own).
use Rattle.std.specs.Prelude.{◌≡◌, ℕ, ◌+◌, ◌≤◌, List, length}
use Rattle.dg_model.specs.declared.diagram.Diagram.{Diagram}
use Rattle.dg_model.specs.declared.resolved.Resolved.{Resolved}
use Rattle.dg_model.specs.Attributes.{attributes_of}
use Rattle.dg_tables.specs.Laws.{IsOrdered}
use Rattle.hw_net.specs.Circuit.{Circuit}
use Rattle.hw_net.specs.Frames.{register_count}
use Rattle.hw_net.specs.Netlist.{IsNetlist}
use Rattle.hw_sched.specs.Chained.{chained}
use Rattle.hw_sched.specs.Ready.{units_in_all, unshared}
use Rattle.hw_sched.specs.Scheduled.{IsScheduled}
use Rattle.hw_sched.specs.Slots.{Timing as Times}
use Rattle.hw_net.specs.Emittable.{IsEmittable}
use Rattle.hw_build.specs.Built.{IsBuilt, counter_count}
use Rattle.hw_build.specs.Multiplied.{AreMultiplied}
use Rattle.hw_build.specs.Pipelined.{ArePipelined}
use Rattle.hw_build.specs.Places.{Places}
use Rattle.hw_build.specs.Ports.{HasPorts}
use Rattle.hw_build.specs.Serving.{multipliers, others}
use Rattle.hw_build.specs.Times.{timing_by}
use Rattle.hw_build.specs.inner.Facts.{HaveFacts}
use Rattle.hw_build.specs.inner.Units.{HaveUnits}

pub record IsDone (diagram : Diagram) (plan : Resolved) (times : Times) (places : Places) (hubs : ℕ)
    (netlist : Circuit) : Type 0 where
  pub facts : HaveFacts diagram (timing_by diagram plan times) places hubs hubs netlist
      (length diagram.blocks)
  pub units : HaveUnits diagram plan times places hubs hubs netlist
  pub shared : length (multipliers netlist)
      ≡ units_in_all diagram (attributes_of diagram) plan times
  pub own : length (others netlist) ≡ unshared diagram (attributes_of diagram) plan
  pub multiplied : AreMultiplied diagram plan netlist
  pub pipelined : ArePipelined diagram plan netlist places
  pub ports : HasPorts diagram plan times netlist places
  pub runs : IsNetlist netlist
  pub emittable : IsEmittable netlist
  pub few : register_count netlist.nets
      + counter_count netlist.nets ≤ chained diagram (attributes_of diagram) plan times

-- that is all that the netlist owes
abbrev pub DoneIsBuilt : Type 0
DoneIsBuilt =
    (diagram : Diagram) (order : List ℕ) (plan : Resolved) (times : Times) (places : Places)
    (hubs : ℕ) (netlist : Circuit) → IsOrdered diagram order
    → IsScheduled diagram plan times → IsDone diagram plan times places hubs netlist
    → IsBuilt diagram plan times netlist
