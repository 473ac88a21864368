-- What arcs between blocks ask of latencies, the least that meet them, and cycles that leave none
-- (own).
use Rattle.std.specs.Prelude.{◌≡◌, ◌≢◌, ℕ, ◌+◌, ◌≤◌, ◌<◌, true, List, [], ◌∷◌, ◌++◌, length, map, All, AllPairs, Option, Some, None, slice_get, slice_index}
use Rattle.std.specs.List.{sum_by}
use Rattle.hw_arcs.specs.declared.arc.Arc.{Arc}

-- the latency of a block; a block past the list has none
abbrev pub latency_at : List ℕ → ℕ → ℕ
latency_at lat block = slice_index lat block

-- an arc that counts asks that its end is later than its source by its gain, but for its slack
abbrev pub KeepsArc : List ℕ → Arc → Type 0
KeepsArc lat arc =
    arc.counts ≡ true → latency_at lat arc.from + arc.gain ≤ latency_at lat arc.to + arc.slack

-- each arc is kept
pub record IsFeasible (arcs : List Arc) (lat : List ℕ) : Type 0 where
  pub keeps : (number : ℕ) (arc : Arc) → slice_get arcs number ≡ Some arc → KeepsArc lat arc

-- each arc is kept, and no list that keeps them has a lesser latency anywhere
pub record IsLeast (arcs : List Arc) (lat : List ℕ) : Type 0 where
  pub feasible : IsFeasible arcs lat
  pub least : (other : List ℕ) → IsFeasible arcs other → (block : ℕ)
      → latency_at lat block ≤ latency_at other block

-- the arc of this number ends at the block, and is kept with nothing to spare
pub record IsTightArc (arcs : List Arc) (lat : List ℕ) (block number : ℕ) : Type 0 where
  pub arc : Arc
  pub at : slice_get arcs number ≡ Some arc
  pub counts : arc.counts ≡ true
  pub ends : arc.to ≡ block
  pub equal : latency_at lat arc.from + arc.gain ≡ latency_at lat block + arc.slack

-- for each block of a latency above 0 the number of such an arc; followed back, these come to an
-- end
pub record AreTight (arcs : List Arc) (lat : List ℕ) (tight : List (Option ℕ)) : Type 0 where
  pub size : length tight ≡ length lat
  pub none : (block : ℕ) → slice_get tight block ≡ Some None → latency_at lat block ≡ 0
  pub some : (block number : ℕ) → slice_get tight block ≡ Some (Some number)
      → (0 < latency_at lat block) × IsTightArc arcs lat block number
  pub rank : ℕ → ℕ
  pub falls : (block number : ℕ) (arc : Arc) → slice_get tight block ≡ Some (Some number)
      → slice_get arcs number ≡ Some arc → rank arc.from < rank block

-- a list with its first put last
abbrev pub turned : List ℕ → List ℕ
turned [] = []
turned (first ∷ others) = others ++ first ∷ []

-- an arc of the list that counts
pub record IsCountedArc (arcs : List Arc) (arc : Arc) : Type 0 where
  pub number : ℕ
  pub at : slice_get arcs number ≡ Some arc
  pub counts : arc.counts ≡ true

-- arcs lead from each block of the list to the next and from the last to the first, and their gains
-- are greater than their slacks by this much
pub record IsGainingCycle (arcs : List Arc) (cycle : List ℕ) (total : ℕ) : Type 0 where
  pub edges : List Arc
  pub are : All (IsCountedArc arcs) edges
  pub from : map (λ arc. arc.from) edges ≡ cycle
  pub to : map (λ arc. arc.to) edges ≡ turned cycle
  pub gains : sum_by (λ arc. arc.gain) edges ≡ total + sum_by (λ arc. arc.slack) edges
  pub above : 0 < total
  pub different : AllPairs (λ block other. block ≢ other) cycle

-- it begins with its least block
abbrev pub BeginsAtLeast : List ℕ → Type 0
BeginsAtLeast cycle = All (λ block. slice_index cycle 0 ≤ block) cycle
