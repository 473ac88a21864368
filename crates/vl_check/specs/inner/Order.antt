-- An order in which each reads what stands before it, or a cycle of them.
use Rattle.std.specs.Prelude.{◌≡◌, ◌≢◌, ℕ, ◌+◌, ◌<◌, ◌%◌, List, length, slice_index, Contains}
use Rattle.fx_io.specs.Rows.{row_at}

pub record IsOrder (reads : List (List ℕ)) (order : List ℕ) : Type 0 where
  pub each : (v : ℕ) → v < length reads → Contains order v
  pub within : (p : ℕ) → p < length order → slice_index order p < length reads
  pub once : (p q : ℕ) → p < q → q < length order → slice_index order p ≢ slice_index order q
  pub earlier : (p k : ℕ) → p < length order → k < length (row_at reads (slice_index order p))
      → (q : ℕ) × (q < p)
      × (slice_index order q ≡ slice_index (row_at reads (slice_index order p)) k)

pub record IsCycle (reads : List (List ℕ)) (cycle : List ℕ) : Type 0 where
  pub some : 0 < length cycle
  pub within : (i : ℕ) → i < length cycle → slice_index cycle i < length reads
  pub reads_next : (i : ℕ) → i < length cycle
      → Contains (row_at reads (slice_index cycle i)) (slice_index cycle ((i + 1) % length cycle))
  pub apart : (i j : ℕ) → i < j → j < length cycle → slice_index cycle i ≢ slice_index cycle j

-- each number that is read is one of them
pub record AreKnown (reads : List (List ℕ)) : Type 0 where
  pub at : (v k : ℕ) → v < length reads → k < length (row_at reads v)
      → slice_index (row_at reads v) k < length reads
