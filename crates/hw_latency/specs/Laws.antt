-- What the definitions together say (own).
use Rattle.std.specs.Prelude.{◌≡◌, ℕ, ◌*◌, ◌≤◌, Bool, List, length, None, Some, slice_get}
use Rattle.dg_model.specs.declared.diagram.Diagram.{Diagram}
use Rattle.dg_model.specs.declared.resolved.Resolved.{Resolved}
use Rattle.dg_model.specs.Attributes.{attributes_of}
use Rattle.dg_model.specs.LatencyEdges.{LatencyEdge, latency_edges}
use Rattle.dg_model.specs.Signals.{Attributes}
use Rattle.hw_arcs.specs.Latencies.{latency_at}
use Rattle.hw_latency.specs.Cone.{AreFed, is_marked}
use Rattle.hw_latency.specs.Latency.{Feasible, IsLeastLatency, IsLatencyCycle}
use Rattle.dg_model.specs.PlanOf.{IsPlanOf}
use Rattle.hw_latency.specs.Weight.{samples}

-- two lists of marks that are right agree on every block
abbrev pub FedIsOne : Type 0
FedIsOne =
    (diagram : Diagram) (attributes : Attributes) (plan : Resolved) (fed other : List Bool)
    (place : ℕ) → AreFed diagram attributes plan fed
    → AreFed diagram attributes plan other → is_marked fed place ≡ is_marked other place

-- two lists of least latencies agree on every block
abbrev pub LatenciesAreOne : Type 0
LatenciesAreOne =
    (diagram : Diagram) (plan : Resolved) (lat other : List ℕ) (place : ℕ)
    → IsLeastLatency diagram plan lat → IsLeastLatency diagram plan other
    → latency_at lat place ≡ latency_at other place

-- a cycle of edges that gains leaves no latencies
abbrev pub LatencyCyclesLeaveNone : Type 0
LatencyCyclesLeaveNone =
    (diagram : Diagram) (plan : Resolved) (cycle : List ℕ) (total : ℕ) (lat : List ℕ)
    → IsLatencyCycle diagram plan cycle total → ¬ Feasible diagram plan lat

-- each finite period is at most so many base samples, and these are at least one
pub record ArePeriodsWithin (diagram : Diagram) (most : ℕ) : Type 0 where
  pub some : 1 ≤ most
  pub short : (place : ℕ) → samples ((attributes_of diagram).period_at place) ≤ most

-- the least latencies are no greater than 65 of the longest periods for each block
abbrev pub LatenciesAreSmall : Type 0
LatenciesAreSmall =
    (diagram : Diagram) (plan : Resolved) (lat : List ℕ) (most place : ℕ) → IsPlanOf diagram plan
    → ArePeriodsWithin diagram most
    → IsLeastLatency diagram plan lat → latency_at lat place ≤ length diagram.blocks * (65 * most)

-- the value of each block from which an edge leads into this one never changes
pub record IsUnasked (diagram : Diagram) (block : ℕ) : Type 0 where
  pub idle : (number : ℕ) (edge : LatencyEdge)
      → slice_get (latency_edges diagram) number ≡ Some edge → edge.to ≡ block
      → (attributes_of diagram).period_at edge.from ≡ None

-- such a block has the least latency 0
abbrev pub UnaskedBlocksAreZero : Type 0
UnaskedBlocksAreZero =
    (diagram : Diagram) (plan : Resolved) (lat : List ℕ) (block : ℕ)
    → IsLeastLatency diagram plan lat → IsUnasked diagram block → latency_at lat block ≡ 0
