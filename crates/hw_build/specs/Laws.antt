-- What the definitions together say (own).
use Rattle.std.specs.Prelude.{◌≡◌, ℕ, ◌%◌, Some}
use Rattle.dg_model.specs.declared.diagram.Diagram.{Diagram}
use Rattle.dg_model.specs.declared.resolved.Resolved.{Resolved}
use Rattle.dg_model.specs.Attributes.{attributes_of}
use Rattle.hw_sched.specs.Slots.{Timing as Times, Operation, unit_of}
use Rattle.hw_sched.specs.Laws.{IsOperation}
use Rattle.dg_model.specs.Checked.{IsChecked}
use Rattle.hw_latency.specs.declared.latencies.Latencies.{Latencies}
use Rattle.dg_model.specs.PlanOf.{IsPlanOf}
use Rattle.hw_sched.specs.declared.slots.Slots.{Slots}
use Rattle.hw_sched.specs.Answer.{AreSlots, timing_of}
use Rattle.hw_sched.specs.Scheduled.{IsScheduled}
use Rattle.hw_shows.specs.Timed.{IsTimed}
use Rattle.hw_build.specs.Serving.{clock_of}
use Rattle.hw_build.specs.Times.{timing_by}

-- the times of a schedule are such as waves need
abbrev pub SchedulesAreTimed : Type 0
SchedulesAreTimed =
    (diagram : Diagram) (plan : Resolved) (times : Times) → IsScheduled diagram plan times
    → IsTimed diagram (attributes_of diagram) (timing_by diagram plan times)

-- a multiplier serves one operation for one hit in a clock
pub record IsSameTurn (number other t u : ℕ) : Type 0 where
  pub number_is : number ≡ other
  pub hit_is : t ≡ u

abbrev pub OneTurnAtATime : Type 0
OneTurnAtATime =
    (diagram : Diagram) (plan : Resolved) (times : Times) (number other : ℕ) (o q : Operation)
    (period wide t u : ℕ) → IsScheduled diagram plan times
    → IsOperation diagram (attributes_of diagram) plan number o
    → IsOperation diagram (attributes_of diagram) plan other q
    → (attributes_of diagram).period_at o.block ≡ Some period
    → (attributes_of diagram).period_at q.block ≡ Some wide → t % period ≡ 0 → u % wide ≡ 0
    → unit_of diagram (attributes_of diagram) plan times number o
    ≡ unit_of diagram (attributes_of diagram) plan times other q
    → clock_of diagram plan times number o t ≡ clock_of diagram plan times other q u
    → IsSameTurn number other t u

-- a checked diagram and a plan with its latencies and slots are scheduled
abbrev pub SlotsAreScheduled : Type 0
SlotsAreScheduled =
    (diagram : Diagram) (plan : Resolved) (latencies : Latencies) (slots : Slots)
    → IsChecked diagram → IsPlanOf diagram plan
    → AreSlots diagram plan latencies slots
    → IsScheduled diagram plan (timing_of latencies slots.depths)
