-- Numbers that are marked, in order, and how many of them stand below each.
use Rattle.std.specs.Prelude.{◌≡◌, ℕ, zero, suc, ◌<◌, Bool, if◌then◌else◌, List, [], ◌∷◌, ◌++◌, length, slice_index}
use Rattle.hw_trim.specs.inner.Marks.{is_marked}

-- those below a number
abbrev pub kept_of : List Bool → ℕ → List ℕ
kept_of marks zero = []
kept_of marks (suc n) = kept_of marks n ++ (if is_marked marks n then n ∷ [] else [])

pub record ArePlaces (marks : List Bool) (places : List ℕ) (count : ℕ) : Type 0 where
  pub size : length places ≡ count
  pub each : (k : ℕ) → k < count → slice_index places k ≡ length (kept_of marks k)
