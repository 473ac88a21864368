-- What is answered of a diagram by a plan: when and where shared operations are served and when
-- outputs are ready, or a period that has too few slots (own).
use Rattle.std.specs.Prelude.{◌≡◌, ℕ, List, [], length, Some, slice_get, ⊤}
use Rattle.dg_model.specs.declared.diagram.Diagram.{Diagram}
use Rattle.dg_model.specs.declared.fault.Shown.TheVariants.{Budget as ShownBudget}
use Rattle.dg_model.specs.declared.resolved.Resolved.{Resolved}
use Rattle.dg_model.specs.declared.rule.Rule.{Rule}
use Rattle.dg_model.specs.Attributes.{attributes_of}
use Rattle.dg_model.specs.Faults.{fault_of}
use Rattle.hw_latency.specs.declared.latencies.Latencies.{Latencies}
use Rattle.hw_sched.specs.declared.slots.Slots.{Slots}
use Rattle.hw_slots.specs.declared.slots.SlotFault.{SlotFault}
use Rattle.hw_slots.specs.declared.slots.SlotFault.TheVariants.{Budget, OutOfMemory}
use Rattle.hw_sched.specs.Slots.{Timing, Operation, shared_operations, slot_of, unit_of}
use Rattle.hw_sched.specs.Ready.{AreReady}
use Rattle.hw_sched.specs.Budget.{KeepsBudget, BreaksBudget}
use Rattle.hw_sched.specs.Scheduled.{IsTimingOf}
use Rattle.hw_sched.specs.Laws.{IsOperation}

-- what is known of the blocks, by their latencies and depths
abbrev pub timing_of : Latencies → List ℕ → Timing
timing_of latencies depths = record { lat = latencies.lat; fed = latencies.fed; depths = depths }

-- the slots of the shared operations
pub record AreStarts (diagram : Diagram) (plan : Resolved) (timing : Timing)
    (starts : List ℕ) : Type 0 where
  pub size : length starts ≡ length (shared_operations diagram (attributes_of diagram) plan)
  pub are : (number : ℕ) (o : Operation) → IsOperation diagram (attributes_of diagram) plan number o
      → slice_get starts number
      ≡ Some (slot_of diagram (attributes_of diagram) plan timing number o)

-- their multipliers
pub record AreUnits (diagram : Diagram) (plan : Resolved) (timing : Timing)
    (units : List ℕ) : Type 0 where
  pub size : length units ≡ length (shared_operations diagram (attributes_of diagram) plan)
  pub are : (number : ℕ) (o : Operation) → IsOperation diagram (attributes_of diagram) plan number o
      → slice_get units number ≡ Some (unit_of diagram (attributes_of diagram) plan timing number o)

-- the slots, multipliers and ready outputs of a diagram and a plan that keep the rule of budget
pub record AreSlots (diagram : Diagram) (plan : Resolved) (latencies : Latencies)
    (slots : Slots) : Type 0 where
  pub timed : IsTimingOf diagram plan (timing_of latencies slots.depths)
  pub budget : KeepsBudget diagram plan (timing_of latencies slots.depths)
  pub starts : AreStarts diagram plan (timing_of latencies slots.depths) slots.starts
  pub units : AreUnits diagram plan (timing_of latencies slots.depths) slots.units
  pub ready : AreReady diagram plan (timing_of latencies slots.depths) slots.ready

-- the rule is broken, and these are the first period that breaks it, the slots that this needs and
-- those that it has
pub record IsBudgetTold (diagram : Diagram) (plan : Resolved) (latencies : Latencies)
    (period need have : ℕ) : Type 0 where
  pub depths : List ℕ
  pub timed : IsTimingOf diagram plan (timing_of latencies depths)
  pub breaks : BreaksBudget diagram plan (timing_of latencies depths)
      (fault_of Rule.Budget [] (ShownBudget period need have))

-- what is answered where there are no slots: that, or want of memory
abbrev pub IsBudgetFault : Diagram → Resolved → Latencies → SlotFault → Type 0
IsBudgetFault diagram plan latencies (Budget period need have) =
    IsBudgetTold diagram plan latencies period need have
IsBudgetFault diagram plan latencies OutOfMemory = ⊤
