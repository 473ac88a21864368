-- In which slots of their periods operations stand, and at which multipliers (own; HDL Coder,
-- resource sharing). Kinds and periods go by number. Operations of one kind can be served by one
-- multiplier, and those of a level stand before those of the next.
use Rattle.std.specs.Prelude.{ℕ, ◌+◌, ◌-◌, ◌/◌, ◌%◌, ◌&&◌, ◌==◌, min, if◌then◌else◌, List, map, take, count_by}
use Rattle.std.specs.List.{sum}
use Rattle.math_list.specs.Numbers.{numbers_from, greatest}
use Rattle.hw_slots.specs.declared.operation.Operation.{Operation}

-- how many operations have this kind and level
abbrev pub count_at : List Operation → ℕ → ℕ → ℕ
count_at operations kind level = count_by (λ o. (o.kind == kind) && (o.level == level)) operations

-- a number shared out evenly, rounded up
abbrev pub shared_out : ℕ → ℕ → ℕ
shared_out count multipliers = (count + (multipliers - 1)) / multipliers

-- the slots that an operation's kind needs at its level, where that is a level of this period
abbrev pub needed : List Operation → ℕ → ℕ → ℕ → Operation → ℕ
needed operations multipliers period level o =
    if (o.period == period) && (o.level == level)
    then shared_out (count_at operations o.kind o.level) multipliers else 0

-- how many slots a level of a period takes: the most that one kind needs there
abbrev pub level_width : List Operation → ℕ → ℕ → ℕ → ℕ
level_width operations multipliers period level =
    greatest (map (needed operations multipliers period level) operations)

-- how many levels an operation shows that a period has
abbrev pub level_after : ℕ → Operation → ℕ
level_after period o = if o.period == period then o.level + 1 else 0

-- how many levels a period has
abbrev pub levels_of : List Operation → ℕ → ℕ
levels_of operations period = greatest (map (level_after period) operations)

-- the first slot of a level of a period, by that of the period
abbrev pub base_slot : List Operation → ℕ → ℕ → ℕ → ℕ → ℕ
base_slot operations multipliers start period level =
    start + sum (map (level_width operations multipliers period) (numbers_from 0 level))

-- the slots that a period needs
abbrev pub need_of : List Operation → ℕ → ℕ → ℕ → ℕ
need_of operations multipliers start period =
    base_slot operations multipliers start period (levels_of operations period)

-- the place of the operation of a number among those of its kind and level
abbrev pub turn_of : List Operation → ℕ → Operation → ℕ
turn_of operations number o = count_at (take number operations) o.kind o.level

-- its slot, by the first of its period
abbrev pub slot_of : List Operation → ℕ → ℕ → ℕ → Operation → ℕ
slot_of operations multipliers start number o =
    base_slot operations multipliers start o.period o.level
    + turn_of operations number o / multipliers

-- how many operations of a kind an operation has at its level, itself included, if it is of that
-- kind
abbrev pub beside : List Operation → ℕ → Operation → ℕ
beside operations kind o = if o.kind == kind then count_at operations o.kind o.level else 0

-- the most operations of a kind at one level
abbrev pub most_at_once : List Operation → ℕ → ℕ
most_at_once operations kind = greatest (map (beside operations kind) operations)

-- how many multipliers serve a kind
abbrev pub units_of_kind : List Operation → ℕ → ℕ → ℕ
units_of_kind operations multipliers kind = min multipliers (most_at_once operations kind)

-- the number of the first multiplier of a kind: the kinds have theirs one after another
abbrev pub first_unit : List Operation → ℕ → ℕ → ℕ
first_unit operations multipliers kind =
    sum (map (units_of_kind operations multipliers) (numbers_from 0 kind))

-- the multiplier of the operation of a number
abbrev pub unit_of : List Operation → ℕ → ℕ → Operation → ℕ
unit_of operations multipliers number o =
    first_unit operations multipliers o.kind + turn_of operations number o % multipliers
