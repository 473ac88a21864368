-- Instant edges, their paths and cycles, and an order along them (Simulink reference, algebraic
-- loops; which cycle is shown is own).
use Rattle.std.specs.Prelude.{◌≡◌, ℕ, suc, ◌<◌, ◌≤◌, ◌≢◌, ◌%◌, List, ◌∷◌, length, All, AllPairs, Any, Some, slice_get, slice_index}
use Rattle.dg_model.specs.declared.diagram.Diagram.{Diagram}
use Rattle.dg_model.specs.declared.fault.RuleFault.{RuleFault}
use Rattle.dg_model.specs.declared.fault.Shown.TheVariants.{Cycle}
use Rattle.dg_model.specs.declared.rule.Rule.{Rule}
use Rattle.dg_model.specs.Faults.{path_of, fault_of}
use Rattle.dg_model.specs.Instant.{IsInstant}
use Rattle.dg_model.specs.LatencyEdges.{latency_edges}
use Rattle.dg_model.specs.Signals.{Attributes}

-- an instant edge leads from one block to another
abbrev pub LeadsNow : Diagram → Attributes → ℕ → ℕ → Type 0
LeadsNow diagram attributes from to =
    Any (λ edge. (edge.from ≡ from) × (edge.to ≡ to) × IsInstant diagram attributes edge)
    (latency_edges diagram)

-- an instant edge leads from each block of the list to the next
abbrev pub IsInstantPath : Diagram → Attributes → List ℕ → Type 0
IsInstantPath diagram attributes path =
    (k from to : ℕ) → slice_get path k ≡ Some from → slice_get path (suc k) ≡ Some to
    → LeadsNow diagram attributes from to

-- the block at `from` lies in the instant cone of the block at `to`: it is that block, or instant
-- edges lead to it
pub record IsInCone (diagram : Diagram) (attributes : Attributes) (from to : ℕ) : Type 0 where
  pub path : List ℕ
  pub leads : IsInstantPath diagram attributes path
  pub begins : slice_get path 0 ≡ Some from
  pub last : ℕ
  pub ends : slice_get path last ≡ Some to

-- different blocks, of which an instant edge leads from each to the next and from the last to the
-- first
pub record IsInstantCycle (diagram : Diagram) (attributes : Attributes)
    (cycle : List ℕ) : Type 0 where
  pub some : 1 ≤ length cycle
  pub different : AllPairs (λ block other. block ≢ other) cycle
  pub leads : (k : ℕ) → k < length cycle
      → LeadsNow diagram attributes (slice_index cycle k) (slice_index cycle (suc k % length cycle))

-- every block once, each after those from which an instant edge leads to it
pub record IsOrder (diagram : Diagram) (attributes : Attributes) (order : List ℕ) : Type 0 where
  pub there : All (λ place. place < length diagram.blocks) order
  pub different : AllPairs (λ block other. block ≢ other) order
  pub all : (place : ℕ) → place < length diagram.blocks → Any (λ other. other ≡ place) order
  pub after : (k place source : ℕ) → slice_get order k ≡ Some place
      → LeadsNow diagram attributes source place → (j : ℕ) × (j < k)
      × (slice_get order j ≡ Some source)

-- the rule is kept
abbrev pub KeepsLoop : Diagram → Attributes → Type 0
KeepsLoop diagram attributes = (cycle : List ℕ) → ¬ IsInstantCycle diagram attributes cycle

-- the rule is broken, with this fault: a cycle that begins at the least block that lies on any
pub record BreaksLoop (diagram : Diagram) (attributes : Attributes)
    (fault : RuleFault) : Type 0 where
  pub first : ℕ
  pub more : List ℕ
  pub is_cycle : IsInstantCycle diagram attributes (first ∷ more)
  pub least : (other : List ℕ) → IsInstantCycle diagram attributes other
      → All (λ block. first ≤ block) other
  pub fault_is : fault ≡ fault_of Rule.Loop (path_of diagram first) (Cycle (first ∷ more))
