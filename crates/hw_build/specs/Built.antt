-- What the netlist of a diagram owes (own).
use Rattle.std.specs.Prelude.{ℕ, ◌+◌, ◌≤◌, List, [], ◌∷◌}
use Rattle.dg_model.specs.declared.diagram.Diagram.{Diagram}
use Rattle.dg_model.specs.declared.resolved.Resolved.{Resolved}
use Rattle.dg_model.specs.Attributes.{attributes_of}
use Rattle.hw_latency.specs.declared.latencies.Latencies.{Latencies}
use Rattle.hw_net.specs.declared.netlist.Net.{Net}
use Rattle.hw_net.specs.declared.netlist.NetKind.{NetKind}
use Rattle.hw_net.specs.declared.netlist.NetKind.TheVariants.{Comb, Reg, EnReg, Acc, Bridge, Unit, Counter}
use Rattle.hw_net.specs.Circuit.{Circuit}
use Rattle.hw_net.specs.Frames.{register_count}
use Rattle.hw_net.specs.Netlist.{IsNetlist}
use Rattle.hw_sched.specs.declared.sizing.SizeFault.{SizeFault}
use Rattle.hw_sched.specs.declared.slots.Slots.{Slots}
use Rattle.hw_sched.specs.Answer.{timing_of}
use Rattle.hw_sched.specs.Slots.{Timing as Times}
use Rattle.hw_sched.specs.Chained.{chained}
use Rattle.hw_sched.specs.Sizing.{IsSizeFault}
use Rattle.hw_sched.specs.Storage.{KeepsSize}
use Rattle.hw_net.specs.Emittable.{IsEmittable}
use Rattle.hw_build.specs.Times.{timing_by}
use Rattle.hw_build.specs.Places.{Places}
use Rattle.hw_build.specs.Shown.{ShowsTables}
use Rattle.hw_build.specs.Serving.{Serves}
use Rattle.hw_build.specs.Multiplied.{AreMultiplied}
use Rattle.hw_build.specs.Pipelined.{ArePipelined}
use Rattle.hw_build.specs.Ports.{HasPorts}

-- how many nets count frames
abbrev pub counts : NetKind → ℕ
counts (Comb op args) = 0
counts (Reg frame slot first from) = 0
counts (EnReg frame enable reset first from) = 0
counts (Acc frame enable from) = 0
counts (Bridge frame live from) = 0
counts (Unit left right) = 0
counts (Counter frame) = 1

abbrev pub counter_count : List Net → ℕ
counter_count [] = 0
counter_count (net ∷ nets) = counts net.kind + counter_count nets

-- the netlist can be run and emitted; with places that are chosen before any row it shows the
-- tables of its diagram, has its pipelines and its ports; its multiplications are those that are
-- owed, each shared one served; and it has few registers
pub record IsBuilt (diagram : Diagram) (plan : Resolved) (times : Times)
    (netlist : Circuit) : Type 0 where
  pub runs : IsNetlist netlist
  pub emittable : IsEmittable netlist
  pub places : Places
  pub shows : ShowsTables diagram (timing_by diagram plan times) netlist places
  pub pipelined : ArePipelined diagram plan netlist places
  pub ports : HasPorts diagram plan times netlist places
  pub serves : Serves diagram plan times netlist
  pub multiplied : AreMultiplied diagram plan netlist
  pub few : register_count netlist.nets
      + counter_count netlist.nets ≤ chained diagram (attributes_of diagram) plan times

-- the same by a schedule as it is given, where the rule of size is kept
pub record IsBuiltBy (diagram : Diagram) (plan : Resolved) (latencies : Latencies) (slots : Slots)
    (netlist : Circuit) : Type 0 where
  pub built : IsBuilt diagram plan (timing_of latencies slots.depths) netlist
  pub small : KeepsSize diagram plan (timing_of latencies slots.depths)

-- why there is none: the rule is broken, or memory is wanting
abbrev pub IsBuildFault : Diagram → Resolved → Latencies → Slots → SizeFault → Type 0
IsBuildFault diagram plan latencies slots fault =
    IsSizeFault diagram plan fault (timing_of latencies slots.depths)
