-- A cycle of numbers: the marks of its numbers, its beginning, and its names from there.
use Rattle.std.specs.Prelude.{◌≡◌, ℕ, ◌+◌, ◌%◌, ◌<◌, ◌≤◌, Bool, true, false, if◌then◌else◌, List, [], ◌∷◌, length, slice_index, slice_index_or, Contains, Option, Some, None, option_and_then, codes}
use Rattle.std.specs.Option.{option_or}
use Rattle.vl_ast.specs.declared.modules.Module.{Module}
use Rattle.vl_ast.specs.Conditions.{mentioned}
use Rattle.vl_ast.specs.Nets.{Mention, Declares, Drives, Reads, Clocks, mentions, place_of}
use Rattle.vl_check.specs.declared.scope.Scope.{Scope}
use Rattle.vl_check.specs.Scope.{names_in, number_in}

abbrev pub name_of : Scope → ℕ → List ℕ
name_of scope number = slice_index_or (names_in scope) number []

pub record AreMarked (numbers : List ℕ) (count : ℕ) (marks : List Bool) : Type 0 where
  pub long : length marks ≡ count
  pub marked : (i : ℕ) → i < length numbers
      → slice_index_or marks (slice_index numbers i) false ≡ true
  pub only : (k : ℕ) → slice_index_or marks k false ≡ true → Contains numbers k

abbrev pub if_marked : List Bool → ℕ → Option ℕ
if_marked marks number = if slice_index_or marks number false then Some number else None

-- the number of a name, where it is marked
abbrev pub marked_number : Scope → List Bool → List ℕ → Option ℕ
marked_number scope marks name = option_and_then (if_marked marks) (number_in scope name)

-- a marked number whose name stands at the place
abbrev pub marked_at : Scope → List Bool → Mention → Option ℕ
marked_at scope marks (Declares declared) = marked_number scope marks declared.name
marked_at scope marks (Drives clocked name) = marked_number scope marks name
marked_at scope marks (Reads name) = marked_number scope marks name
marked_at scope marks Clocks =
    option_or (marked_number scope marks (codes "clk")) (marked_number scope marks (codes "reset"))

-- the first answer
abbrev pub first_some : {X : Type 0} → (X → Option ℕ) → List X → Option ℕ
first_some f [] = None
first_some f (x ∷ xs) = option_or (f x) (first_some f xs)

-- each number is that of a name that stands in the text
pub record AreNamed (m : Module) (scope : Scope) (cycle : List ℕ) : Type 0 where
  pub within : (i : ℕ) → i < length cycle → slice_index cycle i < length (names_in scope)
  pub stands : (i : ℕ) → i < length cycle → (x : Mention) × Contains (mentions m) x
      × (mentioned x ≡ name_of scope (slice_index cycle i))

-- the name there stands first in the text
pub record IsBeginning (m : Module) (scope : Scope) (cycle : List ℕ) (at : ℕ) : Type 0 where
  pub within : at < length cycle
  pub first : (i : ℕ) → i < length cycle
      → place_of m (name_of scope (slice_index cycle at)) ≤ place_of m
      (name_of scope (slice_index cycle i))

-- the names of the cycle from a place on
pub record IsTurned (names : List (List ℕ)) (cycle : List ℕ) (at : ℕ)
    (turned : List (List ℕ)) : Type 0 where
  pub long : length turned ≡ length cycle
  pub each : (i : ℕ) (d : List ℕ) → i < length cycle
      → slice_index_or turned i d
      ≡ slice_index_or names (slice_index cycle ((at + i) % length cycle)) []
