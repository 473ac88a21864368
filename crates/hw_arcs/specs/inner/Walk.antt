-- Ways back along the arcs that gave the latencies (own).
use Rattle.std.specs.Prelude.{◌≡◌, ◌==◌, ℕ, ◌+◌, ◌≤◌, ◌<◌, List, [], ◌∷◌, ◌++◌, length, take, drop, reverse, All, count_by, Option, Some, None, slice_get, slice_index, slice_index_or}
use Rattle.std.specs.List.{sum_by}
use Rattle.hw_arcs.specs.declared.arc.Arc.{Arc}

-- the arc that gave a block its latency leads from this one
pub record IsStepBack (arcs : List Arc) (tight : List (Option ℕ)) (block next : ℕ) : Type 0 where
  pub number : ℕ
  pub arc : Arc
  pub given : slice_get tight block ≡ Some (Some number)
  pub at : slice_get arcs number ≡ Some arc
  pub from : arc.from ≡ next

-- from the first block back through all of the list to another
abbrev pub IsChain : List Arc → List (Option ℕ) → ℕ → List ℕ → ℕ → Type 0
IsChain arcs tight first [] end = first ≡ end
IsChain arcs tight first (block ∷ blocks) end =
    (next : ℕ) × (first ≡ block) × IsStepBack arcs tight block next
    × IsChain arcs tight next blocks end

-- a way back through different blocks, which ends before another
pub record IsWay (arcs : List Arc) (tight : List (Option ℕ)) (first : ℕ) (path : List ℕ)
    (end count : ℕ) : Type 0 where
  pub chain : IsChain arcs tight first path end
  pub once : (block : ℕ) → count_by (λ other. other == block) path ≤ 1
  pub short : length path ≤ count
  pub there : (place block : ℕ) → slice_get path place ≡ Some block → block < count
  pub inside : end < count

-- it comes back to the block at a place of itself
pub record IsClosed (arcs : List Arc) (tight : List (Option ℕ)) (first : ℕ) (path : List ℕ)
    (count place : ℕ) : Type 0 where
  pub end : ℕ
  pub way : IsWay arcs tight first path end count
  pub back : slice_get path place ≡ Some end

-- or no arc gave the block that it comes to its latency
pub record IsEnded (arcs : List Arc) (tight : List (Option ℕ)) (first : ℕ) (path : List ℕ)
    (count : ℕ) : Type 0 where
  pub end : ℕ
  pub way : IsWay arcs tight first path end count
  pub free : slice_get tight end ≡ Some None

abbrev pub IsWalked : List Arc → List (Option ℕ) → ℕ → List ℕ → ℕ → Option ℕ → Type 0
IsWalked arcs tight first path count None = IsEnded arcs tight first path count
IsWalked arcs tight first path count (Some place) = IsClosed arcs tight first path count place

-- an arc that is named by a block is there
pub record AreGiven (arcs : List Arc) (tight : List (Option ℕ)) : Type 0 where
  pub given : (block number : ℕ) → slice_get tight block ≡ Some (Some number) → number < length arcs

-- the block stands nowhere in the list
pub record IsOut (path : List ℕ) (block : ℕ) : Type 0 where
  pub out : (place : ℕ) → slice_get path place ≡ Some block → ⊥

-- ---- what a way back that closes gains

-- what is told of the arc that gave a block its latency
abbrev pub of_arc : (Arc → ℕ) → Option Arc → ℕ
of_arc value None = 0
of_arc value (Some arc) = value arc

abbrev pub of_number : (Arc → ℕ) → List Arc → Option ℕ → ℕ
of_number value arcs None = 0
of_number value arcs (Some number) = of_arc value (slice_get arcs number)

abbrev pub gain_into : List Arc → List (Option ℕ) → ℕ → ℕ
gain_into arcs tight block = of_number (λ arc. arc.gain) arcs (slice_index_or tight block None)

abbrev pub slack_into : List Arc → List (Option ℕ) → ℕ → ℕ
slack_into arcs tight block = of_number (λ arc. arc.slack) arcs (slice_index_or tight block None)

abbrev pub gains_of : List Arc → List (Option ℕ) → List ℕ → ℕ
gains_of arcs tight ring = sum_by (gain_into arcs tight) ring

abbrev pub slacks_of : List Arc → List (Option ℕ) → List ℕ → ℕ
slacks_of arcs tight ring = sum_by (slack_into arcs tight) ring

-- the blocks of a list in the other direction, from the one at a place on
abbrev pub back_from : List ℕ → ℕ → List ℕ
back_from ring place =
    slice_index ring place ∷ (reverse (take place ring) ++ reverse (drop (place + 1) ring))

-- the same from its least block on
pub record IsTurnedBack (ring cycle : List ℕ) : Type 0 where
  pub place : ℕ
  pub there : place < length ring
  pub is : cycle ≡ back_from ring place
  pub least : All (λ block. slice_index ring place ≤ block) ring

-- a way back that comes to where it began, through blocks that are there, and gains
pub record IsRing (arcs : List Arc) (tight : List (Option ℕ)) (ring : List ℕ)
    (count : ℕ) : Type 0 where
  pub first : ℕ
  pub chain : IsChain arcs tight first ring first
  pub some : 0 < length ring
  pub once : (block : ℕ) → count_by (λ other. other == block) ring ≤ 1
  pub short : length ring ≤ count
  pub there : (place block : ℕ) → slice_get ring place ≡ Some block → block < count
  pub gains : slacks_of arcs tight ring < gains_of arcs tight ring
