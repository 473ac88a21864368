-- Names by their numbers.
use Rattle.std.specs.Prelude.{◌≡◌, ℕ, ◌<◌, List, length, slice_index, slice_index_or, slice_get, bytes_eq, fold, [], Some, position}
use Rattle.std.specs.Borrow.{Bor}
use Rattle.std.specs.BTreeMap.{BTreeMap, get_by}
use Rattle.std.specs.Cmp.Lexicographic.{slice_cmp}
use Rattle.std.specs.List.{IsDistinct}
use Rattle.std.specs.Ordering.{nat_cmp}
use Rattle.vl_check.specs.Names.{with_name}

-- the number of each of these names is its place among the keys, which are different
pub record Numbered (names keys : List (List ℕ)) (numbers : List ℕ) : Type 0 where
  pub long : length numbers ≡ length names
  pub at : (i : ℕ) (d : List ℕ) → i < length names
      → slice_get keys (slice_index numbers i) ≡ Some (slice_index_or names i d)
  pub used : (k : ℕ) → k < length keys → (i : ℕ) × (i < length names) × (slice_index numbers i ≡ k)
  pub different : IsDistinct bytes_eq keys
  pub whole : keys ≡ fold with_name [] names

-- a map has the place of each name among these, and nothing of others
abbrev pub HasPlaces : List (Bor (List ℕ)) → BTreeMap (Bor (List ℕ)) ℕ → Type 0
HasPlaces names by_name =
    (name : List ℕ)
    → get_by (λ (key : Bor (List ℕ)). slice_cmp nat_cmp name key.now) by_name
    ≡ position (λ (key : Bor (List ℕ)). bytes_eq name key.now) names
