-- The rules of latency, budget and size, which the times of a diagram keep by a plan, and the first
-- of them that is broken (own; HDL Coder, resource sharing and delay balancing).
use Rattle.std.specs.Prelude.{◌⊎◌}
use Rattle.dg_model.specs.declared.diagram.Diagram.{Diagram}
use Rattle.dg_model.specs.declared.fault.RuleFault.{RuleFault}
use Rattle.dg_model.specs.declared.plan.Plan.{Plan}
use Rattle.dg_model.specs.declared.resolved.Resolved.{Resolved}
use Rattle.dg_model.specs.Attributes.{attributes_of}
use Rattle.dg_model.specs.PlanNames.{KeepsPlan, BreaksPlan, IsResolved}
use Rattle.hw_latency.specs.Latency.{BreaksLatency}
use Rattle.hw_sched.specs.Budget.{KeepsBudget, BreaksBudget}
use Rattle.hw_sched.specs.Scheduled.{IsTimingOf}
use Rattle.hw_sched.specs.Slots.{Timing}
use Rattle.hw_sched.specs.Storage.{KeepsSize, BreaksSize}

-- the rules are kept, and these are the times of the blocks
pub record KeepsTimes (diagram : Diagram) (plan : Resolved) (timing : Timing) : Type 0 where
  pub timed : IsTimingOf diagram plan timing
  pub budget : KeepsBudget diagram plan timing
  pub size : KeepsSize diagram plan timing

-- there are latencies, and the rule of budget is broken
pub record BreaksBudgetFirst (diagram : Diagram) (plan : Resolved)
    (fault : RuleFault) : Type 0 where
  pub timing : Timing
  pub timed : IsTimingOf diagram plan timing
  pub broken : BreaksBudget diagram plan timing fault

-- there are slots too, and the rule of size is broken
pub record BreaksSizeFirst (diagram : Diagram) (plan : Resolved) (fault : RuleFault) : Type 0 where
  pub timing : Timing
  pub timed : IsTimingOf diagram plan timing
  pub budget : KeepsBudget diagram plan timing
  pub broken : BreaksSize diagram plan timing fault

-- the first of these rules that is broken is told by this fault
abbrev pub BreaksTimes : Diagram → Resolved → RuleFault → Type 0
BreaksTimes diagram plan fault =
    BreaksLatency diagram plan fault
    ⊎ (BreaksBudgetFirst diagram plan fault ⊎ BreaksSizeFirst diagram plan fault)

-- the plan names blocks of the diagram, and these are its numbers for them
pub record IsFoundIn (diagram : Diagram) (plan : Plan) (resolved : Resolved) : Type 0 where
  pub found : KeepsPlan diagram (attributes_of diagram) plan
  pub numbers : IsResolved diagram plan resolved

-- its paths are found, and a rule of times is broken
pub record BreaksTimesOf (diagram : Diagram) (plan : Plan) (fault : RuleFault) : Type 0 where
  pub resolved : Resolved
  pub found : IsFoundIn diagram plan resolved
  pub broken : BreaksTimes diagram resolved fault

-- the first rule on plans that is broken is told by this fault
abbrev pub BreaksPlanRule : Diagram → Plan → RuleFault → Type 0
BreaksPlanRule diagram plan fault =
    BreaksPlan diagram (attributes_of diagram) plan fault ⊎ BreaksTimesOf diagram plan fault

-- the plan keeps all of them, and these are its numbers and the times of the blocks
pub record IsPlanned (diagram : Diagram) (plan : Plan) (resolved : Resolved)
    (timing : Timing) : Type 0 where
  pub found : IsFoundIn diagram plan resolved
  pub keeps : KeepsTimes diagram resolved timing
