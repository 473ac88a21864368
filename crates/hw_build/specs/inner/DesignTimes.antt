-- What a netlist is built from, and its times (own).
use Rattle.std.specs.Prelude.{ℕ, ◌+◌}
use Rattle.dg_model.specs.Attributes.{attributes_of}
use Rattle.hw_arcs.specs.Latencies.{latency_at}
use Rattle.hw_latency.specs.Weight.{arc_between}
use Rattle.hw_sched.specs.Answer.{timing_of}
use Rattle.hw_sched.specs.Scheduled.{IsScheduled}
use Rattle.hw_sched.specs.Slots.{Timing as Times}
use Rattle.hw_shows.specs.Timing.{Timing}
use Rattle.hw_build.specs.declared.design.Design.{Design}
use Rattle.hw_build.specs.Times.{timing_by}

abbrev pub times_for : Design → Times
times_for design = timing_of design.latencies.now design.slots.now.depths

abbrev pub timing_for : Design → Timing
timing_for design = timing_by design.checked.now.diagram design.plan.now (times_for design)

-- the plan is one of the diagram, with its latencies and slots
pub record IsDesigned (design : Design) : Type 0 where
  pub scheduled : IsScheduled design.checked.now.diagram design.plan.now (times_for design)

-- the base sample at which a block sees the first entry of another, by the registers of its line
abbrev pub seen_at : Design → ℕ → ℕ → ℕ
seen_at design from to =
    latency_at design.latencies.now.lat to
    + (arc_between design.checked.now.diagram
    (attributes_of design.checked.now.diagram) design.plan.now design.latencies.now.fed from
    to).slack
