-- The times of a diagram's blocks by a plan and a schedule, as waves need them (own).
use Rattle.std.specs.Prelude.{ℕ, ◌==◌, ◌&&◌, Bool, Option, None, Some}
use Rattle.std.specs.List.{position}
use Rattle.dg_model.specs.declared.diagram.Diagram.{Diagram}
use Rattle.dg_model.specs.declared.resolved.Resolved.{Resolved}
use Rattle.dg_model.specs.Attributes.{attributes_of}
use Rattle.hw_arcs.specs.Latencies.{latency_at}
use Rattle.dg_model.specs.PlanOf.{stages_at}
use Rattle.hw_sched.specs.Slots.{Timing as Times, Operation, operation, shared_operations, slot_of}
use Rattle.hw_sched.specs.Ready.{ready_of}
use Rattle.hw_shows.specs.Timing.{Timing}

-- the operation is this element of a block
abbrev pub is_element : ℕ → ℕ → Operation → Bool
is_element block element o = (o.block == block) && (o.element == element)

-- the number of the shared operation that an element of a block is, if it is one
abbrev pub number_at : Diagram → Resolved → ℕ → ℕ → Option ℕ
number_at diagram plan block element =
    position (is_element block element) (shared_operations diagram (attributes_of diagram) plan)

-- its slot, by that number
abbrev pub slot_by : Diagram → Resolved → Times → ℕ → ℕ → Option ℕ → Option ℕ
slot_by diagram plan times block element None = None
slot_by diagram plan times block element (Some number) =
    Some (slot_of diagram (attributes_of diagram) plan times number (operation block element))

-- when each block shows its entries
abbrev pub timing_by : Diagram → Resolved → Times → Timing
timing_by diagram plan times = record {
  cycles = plan.cycles;
  latency = latency_at times.lat;
  stages = stages_at plan;
  ready = ready_of diagram (attributes_of diagram) plan times;
  slot =
      λ block element. slot_by diagram plan times block element
      (number_at diagram plan block element);
}
