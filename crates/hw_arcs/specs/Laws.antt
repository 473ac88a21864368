-- What the definitions together say (own).
use Rattle.std.specs.Prelude.{◌≡◌, ℕ, ◌+◌, ◌*◌, ◌≤◌, true, List, length, Some, slice_get}
use Rattle.hw_arcs.specs.declared.arc.Arc.{Arc}
use Rattle.hw_arcs.specs.Latencies.{latency_at, IsFeasible, IsLeast, IsGainingCycle}

-- a cycle that gains leaves no latencies
abbrev pub CyclesLeaveNone : Type 0
CyclesLeaveNone =
    (arcs : List Arc) (cycle : List ℕ) (total : ℕ) (lat : List ℕ) → IsGainingCycle arcs cycle total
    → ¬ IsFeasible arcs lat

-- a block into which no arc leads that counts has the least latency 0
abbrev pub UnaskedAreZero : Type 0
UnaskedAreZero =
    (arcs : List Arc) (lat : List ℕ) (block : ℕ) → IsLeast arcs lat
    → ((number : ℕ) (arc : Arc) → slice_get arcs number ≡ Some arc → arc.counts ≡ true
    → arc.to ≡ block → ⊥) → latency_at lat block ≡ 0

-- the gain of each arc that counts is greater than its slack by this much at most
pub record AskAtMost (arcs : List Arc) (bound : ℕ) : Type 0 where
  pub most : (number : ℕ) (arc : Arc) → slice_get arcs number ≡ Some arc → arc.counts ≡ true
      → arc.gain ≤ arc.slack + bound

-- the least latencies are no greater than so much for each block
abbrev pub LatenciesAreBounded : Type 0
LatenciesAreBounded =
    (arcs : List Arc) (lat : List ℕ) (bound : ℕ) → IsLeast arcs lat → AskAtMost arcs bound
    → (block : ℕ) → latency_at lat block ≤ length lat * bound
