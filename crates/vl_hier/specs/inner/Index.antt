-- The names of a list with their places, as the code keeps them.
use Rattle.std.specs.Prelude.{◌≡◌, ℕ, zero, suc, ◌<◌, Bool, true, false, List, [], ◌∷◌, count_by, bytes_eq, Option, Some, None}
use Rattle.std.specs.Borrow.{Bor}
use Rattle.std.specs.BTreeMap.{is_at}
use Rattle.std.specs.Cmp.Lexicographic.{slice_cmp}
use Rattle.std.specs.Map.{lookup}
use Rattle.std.specs.Ordering.{nat_cmp}
use Rattle.vl_hier.specs.declared.index.Found.{Found}
use Rattle.vl_hier.specs.declared.index.Found.TheVariants.{Once, Often}
use Rattle.vl_hier.specs.declared.index.Index.{Index}

-- how often a name stands in a list
abbrev pub count_of : List (List ℕ) → List ℕ → ℕ
count_of names name = count_by (λ other. bytes_eq other name) names

-- where a name stands, by an index
abbrev pub found_in : Index → List ℕ → Option Found
found_in index name =
    lookup (is_at (λ (key : Bor (List ℕ)). slice_cmp nat_cmp name key.now)) index.by_name.entries

-- this is the first place of a list at which a test passes
abbrev pub IsFirstAt : {A : Type 0} → (A → Bool) → List A → ℕ → Type 0
IsFirstAt test [] place = ⊥
IsFirstAt test (x ∷ xs) zero = test x ≡ true
IsFirstAt test (x ∷ xs) (suc place) = (test x ≡ false) × IsFirstAt test xs place

-- it stands there
abbrev pub IsFound : List (List ℕ) → List ℕ → Option Found → Type 0
IsFound names name None = count_of names name ≡ 0
IsFound names name (Some (Once place)) =
    (count_of names name ≡ 1) × IsFirstAt (λ other. bytes_eq other name) names place
IsFound names name (Some (Often place)) =
    (1 < count_of names name) × IsFirstAt (λ other. bytes_eq other name) names place

-- the index says so of each name
abbrev pub IsIndexOf : List (List ℕ) → Index → Type 0
IsIndexOf names index = (name : List ℕ) → IsFound names name (found_in index name)

-- where a name stands that stands at one more place
abbrev pub with_place : Option Found → ℕ → Found
with_place None place = Once place
with_place (Some (Once first)) place = Often first
with_place (Some (Often first)) place = Often first

-- the first place
abbrev pub first_of : Option Found → Option ℕ
first_of None = None
first_of (Some (Once place)) = Some place
first_of (Some (Often place)) = Some place

-- at one place alone
abbrev pub is_at_once : Option Found → Bool
is_at_once None = false
is_at_once (Some (Once place)) = true
is_at_once (Some (Often place)) = false

-- anywhere
abbrev pub has_place : Option Found → Bool
has_place None = false
has_place (Some found) = true
