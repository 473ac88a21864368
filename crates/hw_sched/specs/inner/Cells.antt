-- What is numbered of shared operations on the way through the blocks (own).
use Rattle.std.specs.Prelude.{◌≡◌, ℕ, nat_lt, if◌then◌else◌, List, [], ◌++◌, length, map, count_by, Option, Some, None}
use Rattle.dg_model.specs.declared.diagram.Diagram.{Diagram}
use Rattle.dg_model.specs.declared.resolved.Resolved.{Resolved}
use Rattle.dg_model.specs.Attributes.{attributes_of}
use Rattle.dg_model.specs.PlanOf.{IsPlanOf}
use Rattle.hw_latency.specs.declared.latencies.Latencies.{Latencies}
use Rattle.hw_latency.specs.Shared.{is_shared}
use Rattle.hw_latency.specs.Weight.{samples}
use Rattle.hw_sched.specs.declared.cells.Cells.{Cells}
use Rattle.hw_sched.specs.declared.cells.Sort.{Sort}
use Rattle.hw_sched.specs.declared.numbers.KindNumbers.{KindNumbers}
use Rattle.hw_sched.specs.Slots.{Timing, Operation, OperationKind, operation, operations_of, kind_of, is_same_kind, level_of, before_kind, kinds_of}
use Rattle.hw_sched.specs.Numbered.{all_kinds, cell_of, cells_of}
use Rattle.hw_sched.specs.inner.Keys.{key_of, number_at}

-- the number of a kind in a list, if it stands there
abbrev pub number_in : List OperationKind → OperationKind → Option ℕ
number_in kinds kind =
    if nat_lt 0 (count_by (is_same_kind kind) kinds) then Some (length (before_kind kind kinds))
    else None

-- the numbers of kinds are those in a list
pub record AreKinds (kinds : List OperationKind) (numbers : KindNumbers) : Type 0 where
  pub found : (kind : OperationKind) → number_at numbers.by_kind.entries kind ≡ number_in kinds kind
  pub count : numbers.count ≡ length kinds

-- what operations are numbered by: a plan of the diagram, and a latency and a depth of each block
pub record AreKnown (diagram : Diagram) (by : Resolved) (late : Latencies)
    (deep : List ℕ) : Type 0 where
  pub plan : IsPlanOf diagram by
  pub lat : length late.lat ≡ length diagram.blocks
  pub depths : length deep ≡ length diagram.blocks

-- this is what the operations of a block have in common
pub record IsSort (diagram : Diagram) (timing : Timing) (place : ℕ) (sort : Sort) : Type 0 where
  pub key : sort.key ≡ key_of (kind_of diagram (attributes_of diagram) timing (operation place 0))
  pub period : sort.period ≡ samples ((attributes_of diagram).period_at place)
  pub level : sort.level ≡ level_of timing (operation place 0)

-- the shared operations of a block
abbrev pub shared_at : Diagram → Resolved → ℕ → List Operation
shared_at diagram plan place =
    if is_shared diagram (attributes_of diagram) plan place
    then operations_of (attributes_of diagram) place else []

-- the shared operations but for these are numbered
pub record AreCellsBut (diagram : Diagram) (plan : Resolved) (timing : Timing)
    (rest : List Operation) (cells : Cells) : Type 0 where
  pub kinds : List OperationKind
  pub numbers : AreKinds kinds cells.numbers
  pub left : kinds_of diagram (attributes_of diagram) timing kinds rest
      ≡ all_kinds diagram (attributes_of diagram) plan timing
  pub listed : cells.operations.items
      ++ map (cell_of diagram (attributes_of diagram) plan timing) rest
      ≡ cells_of diagram (attributes_of diagram) plan timing

-- all are, and so many kinds they have
pub record AreCells (diagram : Diagram) (plan : Resolved) (timing : Timing)
    (cells : Cells) : Type 0 where
  pub listed : cells.operations.items ≡ cells_of diagram (attributes_of diagram) plan timing
  pub kinds : cells.numbers.count ≡ length (all_kinds diagram (attributes_of diagram) plan timing)
