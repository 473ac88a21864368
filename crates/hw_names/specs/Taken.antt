-- The names that are taken, as a set has them (own).
use Rattle.std.specs.Prelude.{◌≡◌, ℕ, ◌≤◌, ◌<◌, List, [], ◌∷◌, Contains, Some, Vec}
use Rattle.std.specs.Global.{Global}
use Rattle.std.specs.List.{list_any}
use Rattle.std.specs.Str.{bytes_eq}
use Rattle.std.specs.Cmp.Lexicographic.{slice_cmp}
use Rattle.std.specs.Ordering.{nat_cmp}
use Rattle.std.specs.BTreeMap.{get}
use Rattle.std.specs.BTreeSet.{contains}
use Rattle.hw_names.specs.declared.names.Names.{Names}
use Rattle.hw_names.specs.Names.{numbered}

-- of the numbers from 2 on those below this one make the name none that is free
pub record AreTried (list : List (List ℕ)) (name : List ℕ) (number : ℕ) : Type 0 where
  pub above : 2 ≤ number
  pub taken : (other : ℕ) → 2 ≤ other → other < number → Contains list (numbered name other)

-- these names are taken, and no others, and numbers are told of some of them below which none makes
-- them free
pub record AreTaken (names : Names) (list : List (List ℕ)) : Type 0 where
  pub each : (name : Vec ℕ Global)
      → contains (λ x y. slice_cmp nat_cmp x.items y.items) names.taken name
      ≡ list_any (λ other. bytes_eq other name.items) list
  pub tried : (name : Vec ℕ Global) (number : ℕ)
      → get (λ x y. slice_cmp nat_cmp x.items y.items) names.numbers name ≡ Some number
      → AreTried list name.items number

-- the names that are taken once these were given one after another
abbrev pub taken_by : List (List ℕ) → List (List ℕ) → List (List ℕ)
taken_by list [] = list
taken_by list (name ∷ names) = taken_by (name ∷ list) names
