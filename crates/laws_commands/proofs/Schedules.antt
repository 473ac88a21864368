-- A diagram with a plan that a text says has a schedule.
use Rattle.std.proofs.Common.{ℕ, List}
use Rattle.dg_model.specs.declared.diagram.Diagram.{Diagram}
use Rattle.dg_model.specs.declared.resolved.Resolved.{Resolved}
use Rattle.dg_rules.proofs.PlanOf.{plan_of}
use Rattle.cmd_design.specs.Design.{IsDesignOf}
use Rattle.hw_sched.specs.Scheduled.{IsScheduled}
use Rattle.hw_sched.specs.Slots.{Timing}
use Rattle.fx_tables.proofs.PlanRange.{in-range}

pub scheduled-of : {model text : List ℕ} {diagram : Diagram} {plan : Resolved} {timing : Timing} → IsDesignOf model text diagram plan timing → IsScheduled diagram plan timing
scheduled-of {model} {text} {diagram} {plan} {timing} design = record {
  checked = design.accepted.checked;
  planned = plan_of diagram design.plan plan (in-range text design.plan design.says) design.planned.found.found design.planned.found.numbers;
  timed = design.planned.keeps.timed;
  budget = design.planned.keeps.budget;
}
