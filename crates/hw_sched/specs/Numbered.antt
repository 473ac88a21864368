-- Shared operations by the numbers of their kinds (own).
use Rattle.std.specs.Prelude.{◌≡◌, ℕ, List, [], length, map}
use Rattle.dg_model.specs.declared.diagram.Diagram.{Diagram}
use Rattle.dg_model.specs.declared.resolved.Resolved.{Resolved}
use Rattle.dg_model.specs.Signals.{Attributes}
use Rattle.hw_latency.specs.Weight.{samples}
use Rattle.hw_slots.specs.declared.operation.Operation.{Operation as Cell}
use Rattle.hw_slots.specs.Slots.{need_of as need_in, slot_of as slot_in, unit_of as unit_in}
use Rattle.hw_sched.specs.Slots.{Timing, Operation, OperationKind, shared_operations, kind_of, level_of, kinds_of, before_kind, start_of, need_of, slot_of, unit_of}
use Rattle.hw_sched.specs.Laws.{IsOperation}

-- the kinds of the shared operations, in order of their first ones
abbrev pub all_kinds : Diagram → Attributes → Resolved → Timing → List OperationKind
all_kinds diagram attributes plan timing =
    kinds_of diagram attributes timing [] (shared_operations diagram attributes plan)

-- the number of a kind among these
abbrev pub number_of : Diagram → Attributes → Resolved → Timing → OperationKind → ℕ
number_of diagram attributes plan timing kind =
    length (before_kind kind (all_kinds diagram attributes plan timing))

-- an operation by the number of its kind, with its period and level
abbrev pub cell_of : Diagram → Attributes → Resolved → Timing → Operation → Cell
cell_of diagram attributes plan timing o = record {
  kind = number_of diagram attributes plan timing (kind_of diagram attributes timing o);
  period = samples (attributes.period_at o.block);
  level = level_of timing o;
}

abbrev pub cells_of : Diagram → Attributes → Resolved → Timing → List Cell
cells_of diagram attributes plan timing =
    map (cell_of diagram attributes plan timing) (shared_operations diagram attributes plan)

-- what these need of a period, and the slots and multipliers that they have, are those of the
-- operations
pub record AreNumbered (diagram : Diagram) (attributes : Attributes) (plan : Resolved)
    (timing : Timing) : Type 0 where
  pub needs : (period : ℕ)
      → need_in (cells_of diagram attributes plan timing) plan.multipliers
      (start_of diagram attributes plan period) period
      ≡ need_of diagram attributes plan timing period
  pub slots : (number : ℕ) (o : Operation) → IsOperation diagram attributes plan number o
      → slot_in (cells_of diagram attributes plan timing) plan.multipliers
      (start_of diagram attributes plan (samples (attributes.period_at o.block))) number
      (cell_of diagram attributes plan timing o)
      ≡ slot_of diagram attributes plan timing number o
  pub units : (number : ℕ) (o : Operation) → IsOperation diagram attributes plan number o
      → unit_in (cells_of diagram attributes plan timing) plan.multipliers number
      (cell_of diagram attributes plan timing o) ≡ unit_of diagram attributes plan timing number o

abbrev pub OperationsAreNumbered : Type 0
OperationsAreNumbered =
    (diagram : Diagram) (attributes : Attributes) (plan : Resolved) (timing : Timing)
    → AreNumbered diagram attributes plan timing
