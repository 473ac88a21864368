-- At which periods the blocks of a diagram run, by rounds (Simulink reference, sample time
-- propagation; the rounds are own).
use Rattle.std.specs.Prelude.{ℕ, ◌*◌, ◌/◌, ◌^◌, min, Bool, true, false, if◌then◌else◌, List, [], ◌∷◌, ◌++◌, length, map, negsuc, Option, Some, None, slice_get, slice_index_or}
use Rattle.std.specs.List.{list_all, filter_map}
use Rattle.std.specs.Option.{option_to_list}
use Rattle.std.specs.Int.{int_gap}
use Rattle.dg_waves.specs.Rounds.{after_rounds}
use Rattle.fx_type.specs.declared.decimal.Decimal.{Decimal}
use Rattle.dg_model.specs.declared.diagram.Diagram.{Diagram}
use Rattle.dg_model.specs.declared.diagram.Block.{Block}
use Rattle.dg_model.specs.declared.diagram.PeriodSpec.{PeriodSpec}
use Rattle.dg_model.specs.declared.diagram.PeriodSpec.TheVariants.{Inherit, Constant as NeverChanges, Every}
use Rattle.dg_model.specs.declared.kind.Kind.{Kind}
use Rattle.dg_model.specs.declared.row.Inherited.{Inherited}
use Rattle.dg_model.specs.Library.{row_of}
use Rattle.dg_model.specs.Wires.{edges_into}

-- ---- declared periods

-- a decimal above 0 in units that make every one whole
abbrev pub units_of : Decimal → ℕ
units_of decimal = decimal.digits * 10 ^ int_gap (negsuc 35) decimal.exponent

-- the period that a specification declares
abbrev pub declared_period : PeriodSpec → Option Decimal
declared_period Inherit = None
declared_period NeverChanges = None
declared_period (Every period) = Some period

-- the least of a list, if there is one
abbrev pub least : List ℕ → Option ℕ
least [] = None
least (x ∷ xs) = Some (at_most x (least xs)) where
  at_most : ℕ → Option ℕ → ℕ
  at_most x None = x
  at_most x (Some y) = min x y

-- the base period in these units: the least that is declared, and 1 where none is
abbrev pub base_units : Diagram → ℕ
base_units diagram =
    or_unit (least
    (map units_of (filter_map (λ block. declared_period block.period) diagram.blocks))) where
      or_unit : Option ℕ → ℕ
      or_unit None = 10 ^ 36
      or_unit (Some units) = units

-- how many base periods a declared period has
abbrev pub multiple_of : Diagram → Decimal → ℕ
multiple_of diagram decimal = units_of decimal / base_units diagram

-- ---- rounds

-- a block's period in base samples, or none where its value never changes
abbrev pub Period : Type 0
Period = Option ℕ

-- the periods of the blocks, where they have one yet
abbrev pub Periods : Type 0
Periods = List (Option Period)

-- what is known stays, else this is taken
abbrev pub known_or : {A : Type 0} → Option A → Option A → Option A
known_or (Some x) other = Some x
known_or None other = other

-- what is known of a block
abbrev pub known_at : {A : Type 0} → List (Option A) → ℕ → Option A
known_at values block = slice_index_or values block None

-- the least of the finite periods
abbrev pub finite : Option Period → Option ℕ
finite None = None
finite (Some period) = period

-- the lesser of two, where both are there
abbrev pub least_of : Option ℕ → Option ℕ → Option ℕ
least_of None other = other
least_of (Some x) None = Some x
least_of (Some x) (Some y) = Some (min x y)

-- the least of the finite periods that are known
abbrev pub least_finite : Periods → Option ℕ
least_finite [] = None
least_finite (x ∷ xs) = least_of (finite x) (least_finite xs)

-- its value is known never to change
abbrev pub is_unchanging : Option Period → Bool
is_unchanging (Some None) = true
is_unchanging (Some (Some period)) = false
is_unchanging None = false

-- there are periods, and all of them are known never to change
abbrev pub are_unchanging : Periods → Bool
are_unchanging [] = false
are_unchanging (x ∷ xs) = list_all is_unchanging (x ∷ xs)

-- the control of the enabled subsystem that holds a block, if one does
abbrev pub control_of : Block → List ℕ
control_of block = option_to_list block.enable

-- the drivers of a block in order of its ports
abbrev pub drivers_of : Diagram → ℕ → List ℕ
drivers_of diagram place = map (λ edge. edge.from) (edges_into diagram place)

-- a block's sources: its drivers by port, and the control of its enabled subsystem
abbrev pub sources_of : Diagram → ℕ → Block → List ℕ
sources_of diagram place block = drivers_of diagram place ++ control_of block

-- the least finite period of the sources, else that of a value that never changes, where all are
-- that and the block may take it
abbrev pub taken_period : Inherited → Periods → Option Period
taken_period inherits sources = by_least (least_finite sources) where
  if_unchanging : Inherited → Option Period
  if_unchanging Inherited.OfSources = if are_unchanging sources then Some None else None
  if_unchanging Inherited.Moving = None
  if_unchanging Inherited.Base = None
  if_unchanging Inherited.Unchanging = None

  by_least : Option ℕ → Option Period
  by_least (Some period) = Some (Some period)
  by_least None = if_unchanging inherits

-- the period that a block takes in a round
abbrev pub period_of_next : Diagram → Option Block → Periods → ℕ → Option Period
period_of_next diagram None periods place = None
period_of_next diagram (Some block) periods place =
    taken_period (row_of block.kind).timing.inherits
    (map (known_at periods) (sources_of diagram place block))

-- the period of the block at a place after one more round
abbrev pub next_periods : Diagram → Periods → ℕ → Option Period
next_periods diagram periods place =
    known_or (known_at periods place)
    (period_of_next diagram (slice_get diagram.blocks place) periods place)

-- the period that an inheriting block has before the first round
abbrev pub first_inherited : Inherited → Option Period
first_inherited Inherited.OfSources = None
first_inherited Inherited.Moving = None
first_inherited Inherited.Base = Some (Some 1)
first_inherited Inherited.Unchanging = Some None

-- the period that a block has before the first round
abbrev pub first_period : Diagram → Kind → PeriodSpec → Option Period
first_period diagram kind (Every period) = Some (Some (multiple_of diagram period))
first_period diagram kind NeverChanges = Some None
first_period diagram kind Inherit = first_inherited (row_of kind).timing.inherits

-- the periods before the first round
abbrev pub first_periods : Diagram → Periods
first_periods diagram = map (λ block. first_period diagram block.kind block.period) diagram.blocks

-- the periods after so many rounds
abbrev pub periods_after : Diagram → ℕ → Periods
periods_after diagram rounds = after_rounds (next_periods diagram) rounds (first_periods diagram)

-- what has no period after the rounds takes 1
abbrev pub or_one : Option Period → Period
or_one None = Some 1
or_one (Some period) = period

-- the periods of a diagram's blocks: those after as many rounds as it has blocks
abbrev pub periods_of : Diagram → List Period
periods_of diagram = map or_one (periods_after diagram (length diagram.blocks))

-- the period of the block at a place
abbrev pub period_at : List Period → ℕ → Period
period_at periods block = slice_index_or periods block None
