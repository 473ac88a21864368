-- What is worked out once of a diagram and a plan that keep the rules of latency, budget and size
-- (own).
use Rattle.dg_model.specs.declared.diagram.Diagram.{Diagram}
use Rattle.dg_model.specs.declared.plan.Plan.{Plan}
use Rattle.dg_model.specs.declared.resolved.Resolved.{Resolved}
use Rattle.hw_latency.specs.Latency.{AreLatencies}
use Rattle.hw_sched.specs.Answer.{AreSlots, timing_of}
use Rattle.hw_sched.specs.Sizing.{IsKeptSize}
use Rattle.hw_sched.specs.Slots.{Timing}
use Rattle.hw_rules.specs.declared.times.Times.{Times}
use Rattle.hw_rules.specs.declared.planned.Planned.{Planned}
use Rattle.hw_rules.specs.Rules.{IsFoundIn}

-- the times of the blocks
abbrev pub timing_in : Times → Timing
timing_in times = timing_of times.latencies times.slots.depths

-- latencies, slots and size by a plan
pub record AreTimes (diagram : Diagram) (plan : Resolved) (times : Times) : Type 0 where
  pub latencies : AreLatencies diagram plan times.latencies
  pub slots : AreSlots diagram plan times.latencies times.slots
  pub size : IsKeptSize diagram plan times.sizing (timing_in times)

-- the numbers of a plan for the blocks, with their times
pub record ArePlanned (diagram : Diagram) (plan : Plan) (planned : Planned) : Type 0 where
  pub found : IsFoundIn diagram plan planned.resolved
  pub times : AreTimes diagram planned.resolved planned.times
