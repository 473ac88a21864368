-- What is worked out on the way to slots (own).
use Rattle.std.specs.Prelude.{◌≡◌, ℕ, suc, ◌+◌, ◌≤◌, ◌<◌, min, List, length, map, Some, slice_get}
use Rattle.std.specs.List.{sum}
use Rattle.math_list.specs.Numbers.{numbers_from}
use Rattle.hw_slots.specs.declared.operation.Operation.{Operation}
use Rattle.hw_slots.specs.declared.operation.Span.{Span}
use Rattle.hw_slots.specs.declared.turns.Turns.{Turns}
use Rattle.hw_slots.specs.Slots.{count_at, level_width, levels_of, base_slot, need_of, turn_of, most_at_once, first_unit}
use Rattle.hw_slots.specs.inner.Tally.{tally_at}

-- a tally has the counts by kind and level
pub record AreCounts (operations : List Operation) (tally : List ((ℕ × ℕ) × ℕ)) : Type 0 where
  pub are : (kind level : ℕ) → tally_at tally kind level ≡ count_at operations kind level

-- the turns of the first operations
pub record AreTurns (operations : List Operation) (count : ℕ) (turns : List ℕ) : Type 0 where
  pub size : length turns ≡ count
  pub are : (number : ℕ) (o : Operation) → number < count → slice_get operations number ≡ Some o
      → slice_get turns number ≡ Some (turn_of operations number o)

-- operations have these turns, and some multiplier
pub record CanPlace (operations : List Operation) (multipliers : ℕ) (turns : List ℕ) : Type 0 where
  pub some : 0 < multipliers
  pub are : AreTurns operations (length operations) turns

-- and these counts
pub record CanServe (operations : List Operation) (multipliers : ℕ) (made : Turns) : Type 0 where
  pub turns : CanPlace operations multipliers made.turns
  pub counts : AreCounts operations made.counts

-- a tally has the widths of levels by period
pub record AreWidths (operations : List Operation) (multipliers : ℕ)
    (tally : List ((ℕ × ℕ) × ℕ)) : Type 0 where
  pub are : (period level : ℕ)
      → tally_at tally period level ≡ level_width operations multipliers period level

-- a tally has the numbers of levels by period
pub record AreLevels (operations : List Operation) (tally : List ((ℕ × ℕ) × ℕ)) : Type 0 where
  pub are : (period : ℕ) → tally_at tally period 0 ≡ levels_of operations period

-- a tally has the most operations at once by kind
pub record AreMost (operations : List Operation) (tally : List ((ℕ × ℕ) × ℕ)) : Type 0 where
  pub are : (kind : ℕ) → tally_at tally kind 0 ≡ most_at_once operations kind

-- the first slot of a level by a tally of widths
abbrev pub base_by : List ((ℕ × ℕ) × ℕ) → ℕ → ℕ → ℕ → ℕ
base_by widths start period level =
    start + sum (map (tally_at widths period) (numbers_from 0 level))

-- a tally has the first slots of the first levels of a period, by one of widths
pub record AreBasesBy (widths : List ((ℕ × ℕ) × ℕ)) (start period count : ℕ)
    (tally : List ((ℕ × ℕ) × ℕ)) : Type 0 where
  pub are : (level : ℕ) → level < count
      → tally_at tally period level ≡ base_by widths start period level

-- a tally has the first slots of the first levels of a period
pub record AreBases (operations : List Operation) (multipliers start period count : ℕ)
    (tally : List ((ℕ × ℕ) × ℕ)) : Type 0 where
  pub are : (level : ℕ) → level < count
      → tally_at tally period level ≡ base_slot operations multipliers start period level

-- and nothing else of it has changed
pub record IsElsewhere (period : ℕ) (old tally : List ((ℕ × ℕ) × ℕ)) : Type 0 where
  pub same : (other level : ℕ) → other < period
      → tally_at tally other level ≡ tally_at old other level

-- the first periods have their slots, and a tally the first slots of their levels and of what is
-- behind them
pub record AreLaid (operations : List Operation) (multipliers : ℕ) (periods : List Span) (count : ℕ)
    (tally : List ((ℕ × ℕ) × ℕ)) : Type 0 where
  pub bases : (period : ℕ) (span : Span) → period < count → slice_get periods period ≡ Some span
      → AreBases operations multipliers span.start period (suc (levels_of operations period)) tally
  pub keeps : (period : ℕ) (span : Span) → period < count → slice_get periods period ≡ Some span
      → need_of operations multipliers span.start period ≤ span.have

-- the first multiplier of a kind by a tally of the most operations at once
abbrev pub first_by : List ((ℕ × ℕ) × ℕ) → ℕ → ℕ → ℕ
first_by most multipliers kind =
    sum (map (λ other. min multipliers (tally_at most other 0)) (numbers_from 0 kind))

-- a tally has the first multipliers of the first kinds, by one of the most operations at once
pub record AreFirstBy (most : List ((ℕ × ℕ) × ℕ)) (multipliers count : ℕ)
    (tally : List ((ℕ × ℕ) × ℕ)) : Type 0 where
  pub are : (kind : ℕ) → kind < count → tally_at tally kind 0 ≡ first_by most multipliers kind

-- a tally has the first multipliers of the first kinds
pub record AreFirst (operations : List Operation) (multipliers count : ℕ)
    (tally : List ((ℕ × ℕ) × ℕ)) : Type 0 where
  pub are : (kind : ℕ) → kind < count
      → tally_at tally kind 0 ≡ first_unit operations multipliers kind
