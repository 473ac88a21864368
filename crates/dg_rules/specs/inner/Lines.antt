-- The paths of a plan's lines by number (own).
use Rattle.std.specs.Prelude.{◌≡◌, ℕ, List, Option, position, bytes_eq}
use Rattle.std.specs.Borrow.{Bor}
use Rattle.std.specs.BTreeMap.{is_at}
use Rattle.std.specs.Cmp.Lexicographic.{slice_cmp}
use Rattle.std.specs.Map.{lookup}
use Rattle.std.specs.Ordering.{nat_cmp}
use Rattle.dg_model.specs.declared.plan.Pipeline.{Pipeline}
use Rattle.dg_rules.specs.declared.lines.Lines.{Lines}

-- the paths with their numbers
abbrev pub paths_in : Lines → List (Bor (List ℕ) × ℕ)
paths_in lines = lines.by_path.entries

-- the number of this path among them
abbrev pub number_of : List (Bor (List ℕ) × ℕ) → List ℕ → Option ℕ
number_of entries path =
    lookup (is_at (λ (key : Bor (List ℕ)). slice_cmp nat_cmp path key.now)) entries

-- each path has the number of the first line that has it
abbrev pub AreNumbered : List Pipeline → List (Bor (List ℕ) × ℕ) → Type 0
AreNumbered pipelines entries =
    (path : List ℕ)
    → number_of entries path ≡ position (λ (line : Pipeline). bytes_eq path line.path) pipelines

-- these are the paths of the lines
abbrev pub AreLines : List Pipeline → Lines → Type 0
AreLines pipelines lines = AreNumbered pipelines (paths_in lines)
