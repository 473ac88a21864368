-- The latencies of a diagram's blocks by a plan, and the rule of latency (own).
use Rattle.std.specs.Prelude.{◌≡◌, ℕ, ℤ, pos, Bool, List, [], length, ⊤}
use Rattle.dg_model.specs.declared.diagram.Diagram.{Diagram}
use Rattle.dg_model.specs.declared.fault.RuleFault.{RuleFault}
use Rattle.dg_model.specs.declared.fault.Shown.TheVariants.{Latency}
use Rattle.dg_model.specs.declared.resolved.Resolved.{Resolved}
use Rattle.dg_model.specs.declared.rule.Rule.{Rule}
use Rattle.dg_model.specs.Attributes.{attributes_of}
use Rattle.dg_model.specs.Faults.{fault_of}
use Rattle.hw_arcs.specs.Latencies.{IsFeasible, IsLeast, AreTight, IsGainingCycle, BeginsAtLeast}
use Rattle.hw_latency.specs.declared.latencies.Latencies.{Latencies}
use Rattle.hw_latency.specs.declared.latencies.LatencyFault.{LatencyFault}
use Rattle.hw_latency.specs.declared.latencies.LatencyFault.TheVariants.{Cycle, OutOfMemory}
use Rattle.hw_latency.specs.Cone.{AreFed}
use Rattle.hw_latency.specs.Weight.{latency_arcs}

-- the latencies meet what each edge asks
pub record Feasible (diagram : Diagram) (plan : Resolved) (lat : List ℕ) : Type 0 where
  pub fed : List Bool
  pub are_fed : AreFed diagram (attributes_of diagram) plan fed
  pub size : length lat ≡ length diagram.blocks
  pub feasible : IsFeasible (latency_arcs diagram plan fed) lat

-- they are the least that do, block by block
pub record IsLeastLatency (diagram : Diagram) (plan : Resolved) (lat : List ℕ) : Type 0 where
  pub fed : List Bool
  pub are_fed : AreFed diagram (attributes_of diagram) plan fed
  pub size : length lat ≡ length diagram.blocks
  pub least : IsLeast (latency_arcs diagram plan fed) lat

-- the same with the marks of what is fed by shared operations, and with edges that are met with
-- nothing to spare
pub record AreLatencies (diagram : Diagram) (plan : Resolved) (latencies : Latencies) : Type 0 where
  pub fed : AreFed diagram (attributes_of diagram) plan latencies.fed
  pub size : length latencies.lat ≡ length diagram.blocks
  pub least : IsLeast (latency_arcs diagram plan latencies.fed) latencies.lat
  pub tight : AreTight (latency_arcs diagram plan latencies.fed) latencies.lat latencies.tight

-- a cycle of edges leaves no latencies: its weights have this sum, and it begins with its least
-- block
pub record IsLatencyCycle (diagram : Diagram) (plan : Resolved) (cycle : List ℕ)
    (total : ℕ) : Type 0 where
  pub fed : List Bool
  pub are_fed : AreFed diagram (attributes_of diagram) plan fed
  pub gains : IsGainingCycle (latency_arcs diagram plan fed) cycle total
  pub begins : BeginsAtLeast cycle

-- the rule is kept
abbrev pub KeepsLatency : Diagram → Resolved → Type 0
KeepsLatency diagram plan = (lat : List ℕ) × Feasible diagram plan lat

-- the rule is broken, with this fault
pub record BreaksLatency (diagram : Diagram) (plan : Resolved) (fault : RuleFault) : Type 0 where
  pub cycle : List ℕ
  pub total : ℕ
  pub is_cycle : IsLatencyCycle diagram plan cycle total
  pub fault_is : fault ≡ fault_of Rule.Latency [] (Latency cycle (pos total))

-- what is answered where there are no latencies: such a cycle with its sum, or want of memory
pub record IsCycleTold (diagram : Diagram) (plan : Resolved) (blocks : List ℕ)
    (total : ℤ) : Type 0 where
  pub sum : ℕ
  pub cycle : IsLatencyCycle diagram plan blocks sum
  pub total_is : total ≡ pos sum

abbrev pub IsLatencyFault : Diagram → Resolved → LatencyFault → Type 0
IsLatencyFault diagram plan (Cycle blocks total) = IsCycleTold diagram plan blocks total
IsLatencyFault diagram plan OutOfMemory = ⊤
