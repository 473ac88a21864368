-- Diagrams and plans that keep the rules up to that of budget (own).
use Rattle.std.specs.Prelude.{◌≡◌, length}
use Rattle.dg_model.specs.declared.diagram.Diagram.{Diagram}
use Rattle.dg_model.specs.declared.resolved.Resolved.{Resolved}
use Rattle.dg_model.specs.Attributes.{attributes_of}
use Rattle.dg_model.specs.Checked.{IsChecked}
use Rattle.hw_arcs.specs.Latencies.{IsLeast}
use Rattle.hw_latency.specs.Cone.{AreFed}
use Rattle.dg_model.specs.PlanOf.{IsPlanOf}
use Rattle.hw_latency.specs.Weight.{latency_arcs}
use Rattle.hw_sched.specs.Level.{AreDepths}
use Rattle.hw_sched.specs.Slots.{Timing}
use Rattle.hw_sched.specs.Budget.{KeepsBudget}

-- what is told of the blocks is so: their latencies are the least, and their depths and what is fed
-- are those of the diagram
pub record IsTimingOf (diagram : Diagram) (plan : Resolved) (timing : Timing) : Type 0 where
  pub fed : AreFed diagram (attributes_of diagram) plan timing.fed
  pub depths : AreDepths diagram (attributes_of diagram) plan timing.depths
  pub size : length timing.lat ≡ length diagram.blocks
  pub lat : IsLeast (latency_arcs diagram plan timing.fed) timing.lat

-- a diagram and a plan keep the rules, and these are the times of its blocks
pub record IsScheduled (diagram : Diagram) (plan : Resolved) (timing : Timing) : Type 0 where
  pub checked : IsChecked diagram
  pub planned : IsPlanOf diagram plan
  pub timed : IsTimingOf diagram plan timing
  pub budget : KeepsBudget diagram plan timing
