-- The state of a search in depth: a stage for each number (0 before it is met, 1 and how many of
-- its reads were passed while it is open, and one more when it is placed), the open ones, and those
-- that are placed.
use Rattle.std.specs.Prelude.{◌≡◌, ◌≢◌, ◌⊎◌, ℕ, ◌+◌, ◌-◌, ◌<◌, ◌≤◌, List, [], length, drop, slice_index, Contains, Option, Some, None, sum}
use Rattle.vl_check.specs.inner.Order.{IsCycle}
use Rattle.fx_io.specs.Rows.{row_at}

abbrev pub size : List (List ℕ) → ℕ → ℕ
size reads v = length (row_at reads v)

-- it is placed
pub record Done (reads : List (List ℕ)) (stage : List ℕ) (v : ℕ) : Type 0 where
  pub within : v < length reads
  pub last : slice_index stage v ≡ size reads v + 2

pub record Walk (reads : List (List ℕ)) (stage stack order : List ℕ) : Type 0 where
  pub long : length stage ≡ length reads
  pub finished : (v : ℕ) → Done reads stage v → Contains order v
  pub placed : (p : ℕ) → p < length order → Done reads stage (slice_index order p)
  pub once : (p q : ℕ) → p < q → q < length order → slice_index order p ≢ slice_index order q
  pub earlier : (p k : ℕ) → p < length order → k < size reads (slice_index order p)
      → (q : ℕ) × (q < p)
      × (slice_index order q ≡ slice_index (row_at reads (slice_index order p)) k)
  pub open' : (i : ℕ) → i < length stack
      → (slice_index stack i < length reads) × (1 ≤ slice_index stage (slice_index stack i))
      × (slice_index stage (slice_index stack i) ≤ size reads (slice_index stack i) + 1)
  pub passed : (i k : ℕ) → i < length stack → k + 1 < slice_index stage (slice_index stack i)
      → Done reads stage (slice_index (row_at reads (slice_index stack i)) k)
  pub linked : (i : ℕ) → i + 1 < length stack
      → (slice_index stage (slice_index stack i) ≤ size reads (slice_index stack i))
      × (slice_index (row_at reads (slice_index stack i))
      (slice_index stage (slice_index stack i) - 1) ≡ slice_index stack (i + 1))
  pub apart : (i j : ℕ) → i < j → j < length stack → slice_index stack i ≢ slice_index stack j

pub record State (reads : List (List ℕ)) (stage stack order : List ℕ) : Type 0 where
  pub walk : Walk reads stage stack order
  pub most : (v : ℕ) → v < length reads → slice_index stage v ≤ size reads v + 2
  pub met : (v : ℕ) → v < length reads → 1 ≤ slice_index stage v → Contains stack v
      ⊎ Done reads stage v

abbrev pub total : List ℕ → ℕ
total stage = sum stage

-- one step of the search: a stage goes up, or a cycle is found from a place on
pub record IsStep (reads : List (List ℕ)) (before after stack order : List ℕ) : Type 0 where
  pub state : State reads after stack order
  pub more : total after ≡ total before + 1
  pub higher : (v : ℕ) → slice_index before v ≤ slice_index after v

abbrev pub IsTurned : List (List ℕ) → List ℕ → List ℕ → List ℕ → List ℕ → Option ℕ → Type 0
IsTurned reads before after stack order None = IsStep reads before after stack order
IsTurned reads before after stack order (Some at) =
    (at ≤ length stack) × IsCycle reads (drop at stack)

-- a search from a number: all that was met is placed, and the number is met; or a cycle
abbrev pub IsSearched : List (List ℕ) → List ℕ → List ℕ → List ℕ → ℕ → Option (List ℕ) → Type 0
IsSearched reads before after order root None =
    State reads after [] order × (1 ≤ slice_index after root)
    × ((v : ℕ) → slice_index before v ≤ slice_index after v)
IsSearched reads before after order root (Some cycle) = IsCycle reads cycle
