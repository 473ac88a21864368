-- What is found of all plans of a range, and which is the least (own).
use Rattle.std.specs.Prelude.{◌≡◌, ℕ, ◌<◌, ◌⊎◌, List, length, Option, Some, None, slice_get}
use Rattle.dg_model.specs.declared.diagram.Diagram.{Diagram}
use Rattle.hw_explore.specs.declared.finding.Finding.{Finding}
use Rattle.hw_explore.specs.declared.finding.Judged.TheVariants.{Good}
use Rattle.hw_explore.specs.declared.findings.Findings.{Findings}
use Rattle.hw_explore.specs.declared.rank.Rank.{Rank}
use Rattle.hw_explore.specs.declared.range.Range.{Range}
use Rattle.hw_explore.specs.Candidates.{IsFinding}
use Rattle.hw_explore.specs.Range.{pairs_of}

-- a number is less, or the same and then
abbrev pub IsLessOr : ℕ → ℕ → Type 0 → Type 0
IsLessOr number other Then = (number < other) ⊎ ((number ≡ other) × Then)

-- fewer multiplications are better, then fewer clocks, then less latency, then fewer multipliers
abbrev pub IsBetter : Rank → Rank → Type 0
IsBetter one other =
    IsLessOr one.multiplications other.multiplications
    (IsLessOr one.cycles other.cycles
    (IsLessOr one.latency other.latency (one.multipliers < other.multipliers)))

-- a finding is of a good plan, of this rank
pub record IsRanked (finding : Finding) (rank : Rank) : Type 0 where
  pub good : finding.verdict ≡ Good rank.multiplications rank.latency
  pub cycles : rank.cycles ≡ finding.cycles
  pub multipliers : rank.multipliers ≡ finding.multipliers

-- the finding there is of a good plan, and none is better
pub record IsLeastAt (rows : List Finding) (place : ℕ) : Type 0 where
  pub finding : Finding
  pub there : slice_get rows place ≡ Some finding
  pub rank : Rank
  pub ranked : IsRanked finding rank
  pub least : (k : ℕ) (other : Finding) (better : Rank) → slice_get rows k ≡ Some other
      → IsRanked other better → ¬ IsBetter better rank

-- the least finding, or that none is good
abbrev pub IsLeast : List Finding → Option ℕ → Type 0
IsLeast rows None =
    (k : ℕ) (finding : Finding) (rank : Rank) → slice_get rows k ≡ Some finding
    → ¬ IsRanked finding rank
IsLeast rows (Some place) = IsLeastAt rows place

-- a row for each plan of the range, in order, and the least of them
pub record AreFindings (diagram : Diagram) (range : Range) (findings : Findings) : Type 0 where
  pub size : length findings.rows ≡ pairs_of range
  pub each : (place : ℕ) (finding : Finding) → slice_get findings.rows place ≡ Some finding
      → IsFinding diagram range place finding
  pub least : IsLeast findings.rows findings.least
