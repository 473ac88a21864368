-- The best of the first findings (own).
use Rattle.std.specs.Prelude.{◌≡◌, ℕ, ◌<◌, List, Option, Some, None, slice_get}
use Rattle.hw_explore.specs.declared.exploring.Best.{Best}
use Rattle.hw_explore.specs.declared.finding.Finding.{Finding}
use Rattle.hw_explore.specs.declared.rank.Rank.{Rank}
use Rattle.hw_explore.specs.Findings.{IsBetter, IsRanked}

-- the finding there is of a good plan, and of the first findings none is of a better one
pub record IsBestAt (rows : List Finding) (upto : ℕ) (best : Best) : Type 0 where
  pub finding : Finding
  pub there : slice_get rows best.place ≡ Some finding
  pub ranked : IsRanked finding best.rank
  pub least : (k : ℕ) (other : Finding) (better : Rank) → k < upto → slice_get rows k ≡ Some other
      → IsRanked other better → ¬ IsBetter better best.rank

-- that, or none of the first findings is of a good plan
abbrev pub IsBest : List Finding → ℕ → Option Best → Type 0
IsBest rows upto None =
    (k : ℕ) (finding : Finding) (rank : Rank) → k < upto → slice_get rows k ≡ Some finding
    → ¬ IsRanked finding rank
IsBest rows upto (Some best) = IsBestAt rows upto best
