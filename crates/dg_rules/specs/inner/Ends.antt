-- The ends of the paths of a plan's lines (own).
use Rattle.std.specs.Prelude.{◌≡◌, ℕ, ◌≤◌, Bool, true, List, ◌++◌, length, Some, is_some, slice_get, ⊤}
use Rattle.std.specs.Borrow.{Bor}
use Rattle.std.specs.BTreeMap.{is_at}
use Rattle.std.specs.Cmp.Lexicographic.{slice_cmp}
use Rattle.std.specs.Map.{lookup}
use Rattle.std.specs.Ordering.{nat_cmp}
use Rattle.dg_model.specs.declared.plan.Pipeline.{Pipeline}

-- these bytes are an end
abbrev pub is_end : List (Bor (List ℕ) × ⊤) → List ℕ → Bool
is_end entries end =
    is_some (lookup (is_at (λ (key : Bor (List ℕ)). slice_cmp nat_cmp end key.now)) entries)

-- the last bytes of a path are ends, up to eight
abbrev pub HasEnds : List (Bor (List ℕ) × ⊤) → List ℕ → Type 0
HasEnds entries path =
    (front end : List ℕ) → path ≡ front ++ end → length end ≤ 8 → is_end entries end ≡ true

-- those of each line are
abbrev pub HaveEnds : List Pipeline → List (Bor (List ℕ) × ⊤) → Type 0
HaveEnds lines entries =
    (number : ℕ) (line : Pipeline) → slice_get lines number ≡ Some line → HasEnds entries line.path

-- the path of no line ends so
abbrev pub IsNoEnd : List Pipeline → List ℕ → Type 0
IsNoEnd lines name =
    (number : ℕ) (line : Pipeline) → slice_get lines number ≡ Some line → (front : List ℕ)
    → ¬ (line.path ≡ front ++ name)
