-- Which cycle a fault of the rule of loops tells, where that is to be one: a shortest through the
-- least block on any, and of these the one whose edges, followed back from that block, stand first
-- (own).
use Rattle.std.specs.Prelude.{◌≡◌, ℕ, ◌<◌, ◌≤◌, ◌==◌, ◌&&◌, ◌⊎◌, Bool, List, [], ◌∷◌, length, reverse, ⊤}
use Rattle.std.specs.List.{position_or_len}
use Rattle.dg_model.specs.declared.diagram.Diagram.{Diagram}
use Rattle.dg_model.specs.declared.fault.RuleFault.{RuleFault}
use Rattle.dg_model.specs.Instant.{is_instant}
use Rattle.dg_model.specs.LatencyEdges.{LatencyEdge, latency_edges}
use Rattle.dg_model.specs.Loop.{IsInstantCycle, BreaksLoop}
use Rattle.dg_model.specs.Signals.{Attributes}

-- an instant edge from one block to another
abbrev pub leads_now : Diagram → Attributes → ℕ → ℕ → LatencyEdge → Bool
leads_now diagram attributes to from edge =
    (edge.from == from) && (edge.to == to) && is_instant diagram attributes edge

-- where the first of them stands
abbrev pub first_edge : Diagram → Attributes → ℕ → ℕ → ℕ
first_edge diagram attributes to from =
    position_or_len (leads_now diagram attributes to from) (latency_edges diagram)

-- each of these blocks is read by the one before it, the first by `reader`: at the first place
-- where they differ from others, their edge stands before that of the others
abbrev pub StandNoLater : (ℕ → ℕ → ℕ) → ℕ → List ℕ → List ℕ → Type 0
StandNoLater place reader [] others = ⊤
StandNoLater place reader (block ∷ blocks) [] = ⊥
StandNoLater place reader (block ∷ blocks) (other ∷ others) =
    (place reader block < place reader other)
    ⊎ ((block ≡ other) × StandNoLater place block blocks others)

-- the rule of loops is broken, with this fault, whose cycle is that one
pub record BreaksLoopAlone (diagram : Diagram) (attributes : Attributes)
    (fault : RuleFault) : Type 0 where
  pub breaks : BreaksLoop diagram attributes fault
  pub shortest : (other : List ℕ) → IsInstantCycle diagram attributes (breaks.first ∷ other)
      → length breaks.more ≤ length other
  pub first : (other : List ℕ) → IsInstantCycle diagram attributes (breaks.first ∷ other)
      → length other ≡ length breaks.more
      → StandNoLater (first_edge diagram attributes) breaks.first (reverse breaks.more)
      (reverse other)
