-- Shared operations, and the multipliers and slots that serve them (own; HDL Coder, resource
-- sharing). What is told of blocks before (`Timing`) are their latencies, their depths and what is
-- fed by shared operations.
use Rattle.std.specs.Prelude.{ℕ, suc, ◌+◌, ◌-◌, ◌*◌, ◌/◌, ◌%◌, ◌&&◌, ◌==◌, not, min, nat_lt, Bool, true, false, if◌then◌else◌, List, [], ◌∷◌, ◌++◌, length, map, filter, take, count_by, Option, Some, None, slice_get}
use Rattle.std.specs.List.{sum, flat_map}
use Rattle.std.specs.Ordering.{int_eq}
use Rattle.math_list.specs.Numbers.{numbers_from, greatest}
use Rattle.fx_type.specs.declared.kind.FxType.{FxType}
use Rattle.fx_type.specs.declared.kind.FxType.TheVariants.{Num, Logical}
use Rattle.dg_model.specs.declared.diagram.Diagram.{Diagram}
use Rattle.dg_model.specs.declared.diagram.Block.{Block}
use Rattle.dg_model.specs.declared.diagram.Edge.{Edge}
use Rattle.dg_model.specs.declared.resolved.Resolved.{Resolved}
use Rattle.dg_model.specs.KindRow.{FullRule}
use Rattle.dg_model.specs.Library.{row_of}
use Rattle.dg_model.specs.Rate.{joins_periods}
use Rattle.dg_model.specs.Signals.{Attributes}
use Rattle.dg_model.specs.Wires.{type_into}
use Rattle.hw_arcs.specs.Latencies.{latency_at}
use Rattle.hw_latency.specs.Shared.{is_shared}
use Rattle.hw_latency.specs.Weight.{samples}
use Rattle.hw_sched.specs.Level.{depth_at}

-- what is known of the blocks before any slot is
pub record Timing : Type 0 where
  pub lat : List ℕ
  pub fed : List Bool
  pub depths : List ℕ

-- a multiplication: an element of a block
pub record Operation : Type 0 where
  pub block : ℕ
  pub element : ℕ

-- an element of a block
abbrev pub operation : ℕ → ℕ → Operation
operation place element = record { block = place; element = element }

-- the elements of a block
abbrev pub operations_of : Attributes → ℕ → List Operation
operations_of attributes place =
    map (operation place) (numbers_from 0 (attributes.width_at place 1))

-- the shared operations, by block and then by element
abbrev pub shared_operations : Diagram → Attributes → Resolved → List Operation
shared_operations diagram attributes plan =
    flat_map (operations_of attributes)
    (filter (is_shared diagram attributes plan) (numbers_from 0 (length diagram.blocks)))

-- operations of one kind can be served by one multiplier: they have this period, latency and types
-- of operands
pub record OperationKind : Type 0 where
  pub period : ℕ
  pub lat : ℕ
  pub left : FxType
  pub right : FxType

-- the type of the second operand: a coefficient's or that of input 2
abbrev pub right_type : Diagram → Attributes → ℕ → FullRule → FxType
right_type diagram attributes place FullRule.NoFull = Logical
right_type diagram attributes place (FullRule.FullSum negative accum) = Logical
right_type diagram attributes place (FullRule.FullScaled value param) = attributes.param_at place
right_type diagram attributes place FullRule.FullProduct = type_into diagram attributes place 2
right_type diagram attributes place FullRule.UnionOfTwo = Logical
right_type diagram attributes place FullRule.UnionOfEnds = Logical

abbrev pub right_of : Diagram → Attributes → ℕ → Option Block → FxType
right_of diagram attributes place None = Logical
right_of diagram attributes place (Some block) =
    right_type diagram attributes place (row_of block.kind).types.full

-- the kind of an operation
abbrev pub kind_of : Diagram → Attributes → Timing → Operation → OperationKind
kind_of diagram attributes timing o = record {
  period = samples (attributes.period_at o.block);
  lat = latency_at timing.lat o.block;
  left = type_into diagram attributes o.block 1;
  right = right_of diagram attributes o.block (slice_get diagram.blocks o.block);
}

-- two marks are the same
abbrev pub is_same_mark : Bool → Bool → Bool
is_same_mark true other = other
is_same_mark false other = not other

-- two types are the same
abbrev pub is_same_type : FxType → FxType → Bool
is_same_type (Num signed width frac) (Num other_signed other_width other_frac) =
    (is_same_mark signed other_signed && (width == other_width)) && int_eq frac other_frac
is_same_type (Num signed width frac) Logical = false
is_same_type Logical (Num signed width frac) = false
is_same_type Logical Logical = true

-- two kinds are the same
abbrev pub is_same_kind : OperationKind → OperationKind → Bool
is_same_kind kind other =
    ((kind.period == other.period) && (kind.lat == other.lat))
    && (is_same_type kind.left other.left && is_same_type kind.right other.right)

-- the level of an operation: how many shared blocks of its period stand before it at the most
abbrev pub level_of : Timing → Operation → ℕ
level_of timing o = depth_at timing.depths o.block - 1

-- how many operations of a list have this kind and level
abbrev pub count_at : Diagram → Attributes → Timing → List Operation → OperationKind → ℕ → ℕ
count_at diagram attributes timing operations kind level =
    count_by (λ o. is_same_kind (kind_of diagram attributes timing o) kind
    && (level_of timing o == level)) operations

-- a number shared out evenly, rounded up
abbrev pub shared_out : ℕ → ℕ → ℕ
shared_out count multipliers = (count + (multipliers - 1)) / multipliers

-- how many slots a level of a period takes: the most that one kind needs for its operations there
abbrev pub level_width : Diagram → Attributes → Resolved → Timing → ℕ → ℕ → ℕ
level_width diagram attributes plan timing period level =
    greatest (map
    (λ o. shared_out
    (count_at diagram attributes timing (shared_operations diagram attributes plan)
    (kind_of diagram attributes timing o) level) plan.multipliers)
    (filter (λ o. samples (attributes.period_at o.block) == period)
    (shared_operations diagram attributes plan)))

-- the period of the source of a transition from a shorter period into this one, and 0 at other
-- edges
abbrev pub shorter_into : Attributes → ℕ → Edge → Option Block → ℕ
shorter_into attributes period edge None = 0
shorter_into attributes period edge (Some block) =
    if joins_periods (row_of block.kind).timing.reads
    && ((samples (attributes.period_at edge.to) == period)
    && nat_lt (samples (attributes.period_at edge.from)) period)
    then samples (attributes.period_at edge.from) else 0

-- the first slot of a period: when what comes in from shorter ones is there
abbrev pub start_of : Diagram → Attributes → Resolved → ℕ → ℕ
start_of diagram attributes plan period =
    greatest (map
    (λ edge. shorter_into attributes period edge (slice_get diagram.blocks edge.to))
    diagram.edges) * plan.cycles

-- the first slot of a level of a period
abbrev pub base_slot : Diagram → Attributes → Resolved → Timing → ℕ → ℕ → ℕ
base_slot diagram attributes plan timing period level =
    start_of diagram attributes plan period
    + sum (map (level_width diagram attributes plan timing period) (numbers_from 0 level))

-- how many levels a period has
abbrev pub levels_of : Diagram → Attributes → Resolved → Timing → ℕ → ℕ
levels_of diagram attributes plan timing period =
    greatest (map
    (λ o. if samples (attributes.period_at o.block) == period then suc (level_of timing o)
    else 0) (shared_operations diagram attributes plan))

-- the slots that a period needs, and those that it has
abbrev pub need_of : Diagram → Attributes → Resolved → Timing → ℕ → ℕ
need_of diagram attributes plan timing period =
    base_slot diagram attributes plan timing period
    (levels_of diagram attributes plan timing period)

abbrev pub have_of : Resolved → ℕ → ℕ
have_of plan period = period * plan.cycles - 1

-- the place of the operation of a number among those of its kind and level
abbrev pub turn_of : Diagram → Attributes → Resolved → Timing → ℕ → Operation → ℕ
turn_of diagram attributes plan timing number o =
    count_at diagram attributes timing (take number (shared_operations diagram attributes plan))
    (kind_of diagram attributes timing o) (level_of timing o)

-- its slot
abbrev pub slot_of : Diagram → Attributes → Resolved → Timing → ℕ → Operation → ℕ
slot_of diagram attributes plan timing number o =
    base_slot diagram attributes plan timing (samples (attributes.period_at o.block))
    (level_of timing o) + turn_of diagram attributes plan timing number o / plan.multipliers

-- the most operations of a kind at one level
abbrev pub most_at_once : Diagram → Attributes → Resolved → Timing → OperationKind → ℕ
most_at_once diagram attributes plan timing kind =
    greatest (map
    (λ o. count_at diagram attributes timing
    (shared_operations diagram attributes plan) kind (level_of timing o))
    (shared_operations diagram attributes plan))

-- how many multipliers serve a kind
abbrev pub units_of_kind : Diagram → Attributes → Resolved → Timing → OperationKind → ℕ
units_of_kind diagram attributes plan timing kind =
    min plan.multipliers (most_at_once diagram attributes plan timing kind)

-- a list of kinds with one more, where that isn't among them
abbrev pub with_kind : List OperationKind → OperationKind → List OperationKind
with_kind kinds kind =
    if nat_lt 0 (count_by (is_same_kind kind) kinds) then kinds else kinds ++ kind ∷ []

-- the kinds of operations in order of their first ones
abbrev pub new_kind : Diagram → Attributes → Timing → List OperationKind → Operation
    → List OperationKind
new_kind diagram attributes timing kinds o = with_kind kinds (kind_of diagram attributes timing o)

abbrev pub kinds_of : Diagram → Attributes → Timing → List OperationKind → List Operation
    → List OperationKind
kinds_of diagram attributes timing kinds [] = kinds
kinds_of diagram attributes timing kinds (o ∷ operations) =
    kinds_of diagram attributes timing (new_kind diagram attributes timing kinds o) operations

-- the kinds before this one in a list
abbrev pub before_kind : OperationKind → List OperationKind → List OperationKind
before_kind kind [] = []
before_kind kind (other ∷ kinds) =
    if is_same_kind kind other then [] else other ∷ before_kind kind kinds

-- the number of the first multiplier of a kind
abbrev pub first_unit : Diagram → Attributes → Resolved → Timing → OperationKind → ℕ
first_unit diagram attributes plan timing kind =
    sum (map (units_of_kind diagram attributes plan timing)
    (before_kind kind
    (kinds_of diagram attributes timing [] (shared_operations diagram attributes plan))))

-- the multiplier of the operation of a number
abbrev pub unit_of : Diagram → Attributes → Resolved → Timing → ℕ → Operation → ℕ
unit_of diagram attributes plan timing number o =
    first_unit diagram attributes plan timing (kind_of diagram attributes timing o)
    + turn_of diagram attributes plan timing number o % plan.multipliers
