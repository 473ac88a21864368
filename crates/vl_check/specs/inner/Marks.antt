-- Marks of names, by number, over a part of a text.
use Rattle.std.specs.Prelude.{◌≡◌, ◌≢◌, ℕ, ◌<◌, Bool, true, false, not, ◌&&◌, ◌||◌, List, find, flat_map, length, map, slice_index, slice_index_or, slice_set, bytes_eq, Option, None, Some, is_none, option_map, if◌then◌else◌}
use Rattle.std.specs.List.{list_any}
use Rattle.vl_ast.specs.Nets.{Declared, Mention, Declares, Drives, Reads, Clocks, declared_by}
use Rattle.vl_ast.specs.Conditions.{may_drive_it, mentioned, needs_driver}
use Rattle.vl_check.specs.declared.mentions.Declared.{Declared as DeclaredHere}
use Rattle.vl_check.specs.declared.mentions.Mention.{Mention as MentionHere}
use Rattle.vl_check.specs.declared.mentions.Mention.TheVariants.{Declares as DeclaresHere, Drives as DrivesHere, Reads as ReadsHere, Clocks as ClocksHere}
use Rattle.vl_check.specs.inner.Mentions.{declared_of, shown}

-- a number for each name, below a count, and the same for the same names alone
pub record AreNumbers (names : List (List ℕ)) (numbers : List ℕ) (count : ℕ) : Type 0 where
  pub long : length numbers ≡ length names
  pub below : (i : ℕ) → i < length names → slice_index numbers i < count
  pub one : (i j : ℕ) (d : List ℕ) → i < length names → j < length names
      → slice_index_or names i d ≡ slice_index_or names j d
      → slice_index numbers i ≡ slice_index numbers j
  pub apart : (i j : ℕ) (d : List ℕ) → i < length names → j < length names
      → slice_index_or names i d ≢ slice_index_or names j d
      → slice_index numbers i ≢ slice_index numbers j

-- the same of the name at each place of a text
pub record AreNumbered (text : List MentionHere) (numbers : List ℕ) (count : ℕ) : Type 0 where
  pub long : length numbers ≡ length text
  pub low : (i : ℕ) → i < length text → slice_index numbers i < count
  pub known : AreNumbers (map mentioned (shown text)) numbers count

abbrev pub declares : Mention → Bool
declares (Declares declared) = true
declares (Drives clocked name) = false
declares (Reads name) = false
declares Clocks = false

abbrev pub drives : Mention → Bool
drives (Declares declared) = false
drives (Drives clocked name) = true
drives (Reads name) = false
drives Clocks = false

-- each name is marked where a test of it holds at some place of the part
pub record Marks (test : List ℕ → Mention → Bool) (names : List (List ℕ)) (numbers : List ℕ)
    (marks : List Bool) (part : List Mention) : Type 0 where
  pub at : (i : ℕ) (d : List ℕ) (m : Bool) → i < length names
      → slice_index_or marks (slice_index numbers i) m
      ≡ list_any (test (slice_index_or names i d)) part

-- each name has its first declaration in the part
pub record AreFirst (names : List (List ℕ)) (numbers : List ℕ) (first : List (Option DeclaredHere))
    (part : List Mention) : Type 0 where
  pub at : (i : ℕ) (d : List ℕ) (f : Option DeclaredHere) → i < length names
      → option_map declared_of (slice_index_or first (slice_index numbers i) f)
      ≡ find (λ (x : Declared). bytes_eq x.name (slice_index_or names i d))
      (flat_map declared_by part)

abbrev pub undriven_where : Bool → Bool → Mention → Bool
undriven_where declared driven (Declares of) = needs_driver of.kind && not driven
undriven_where declared driven (Drives clocked name) = not declared
undriven_where declared driven (Reads name) = not declared
undriven_where declared driven Clocks = false

abbrev pub double_where : Bool → Bool → Option Declared → Mention → Bool
double_where declared driven declaration (Declares of) = declared
double_where declared driven declaration (Drives clocked name) =
    driven || not (may_drive_it clocked declaration)
double_where declared driven declaration (Reads name) = false
double_where declared driven declaration Clocks = false

-- the first declarations after one more place
abbrev pub first_after : List (Option DeclaredHere) → ℕ → MentionHere → List (Option DeclaredHere)
first_after first number (DeclaresHere declared) =
    if is_none (slice_index_or first number None) then slice_set first number (Some declared)
    else first
first_after first number (DrivesHere clocked name) = first
first_after first number (ReadsHere name) = first
first_after first number ClocksHere = first
