-- A search along arcs for blocks that lead to one another, and the blocks that wait for theirs (own).
use Rattle.std.specs.Prelude.{◌≡◌, ◌⊎◌, ℕ, ◌<◌, List, [], ◌++◌, length, map, Option, Some, None, slice_get}
use Rattle.hw_arcs.specs.declared.parts.Placed.{Placed}
use Rattle.hw_arcs.specs.declared.parts.Search.{Search}
use Rattle.hw_arcs.specs.declared.waiting.Waiting.{Waiting}
use Rattle.hw_arcs.specs.Found.{IsIn}

-- the blocks that were placed
abbrev pub blocks_of : List Placed → List ℕ
blocks_of placed = map (λ it. it.block) placed

-- the blocks that wait
abbrev pub awaited : Waiting → List ℕ
awaited waiting = blocks_of waiting.later.items ++ waiting.queue.items

-- one of some blocks is taken, and these are left
pub record IsTakenFrom (blocks : List ℕ) (block : ℕ) (rest : List ℕ) : Type 0 where
  pub here : IsIn blocks block
  pub keeps : (other : ℕ) → IsIn blocks other → (block ≡ other) ⊎ IsIn rest other
  pub of : (place other : ℕ) → slice_get rest place ≡ Some other → IsIn blocks other
  pub less : length rest < length blocks

-- the next block is taken, if one is left
abbrev pub IsPopped : List ℕ → List ℕ → Option ℕ → Type 0
IsPopped old new None = (old ≡ []) × (new ≡ [])
IsPopped old new (Some block) = IsTakenFrom old block new

-- blocks that are there
pub record AreBelow (blocks : List ℕ) (count : ℕ) : Type 0 where
  pub below : (place block : ℕ) → slice_get blocks place ≡ Some block → block < count

-- a search notes so many blocks, and names none but these
pub record IsSearch (count : ℕ) (search : Search) : Type 0 where
  pub size : length search.marks.items ≡ count
  pub roots : AreBelow search.roots.items count
  pub path : AreBelow search.path.items count
  pub unclosed : AreBelow search.unclosed.items count
