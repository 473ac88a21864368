-- Where blocks stand first among columns (own).
use Rattle.std.specs.Prelude.{◌≡◌, ℕ, ◌≤◌, List, Some, slice_get, slice_index_or}

-- by block the first of the places from this one on at which it stands
pub record AreColumnsFrom (inputs columns : List ℕ) (left : ℕ) : Type 0 where
  pub least : (k block : ℕ) → slice_get inputs k ≡ Some block → left ≤ k
      → (slice_get inputs (slice_index_or columns block 0) ≡ Some block)
      × (slice_index_or columns block 0 ≤ k)
