-- What the slots of numbered operations say of a diagram (own).
use Rattle.std.specs.Prelude.{◌≡◌, ℕ}
use Rattle.dg_model.specs.declared.diagram.Diagram.{Diagram}
use Rattle.dg_model.specs.declared.resolved.Resolved.{Resolved}
use Rattle.dg_model.specs.Attributes.{attributes_of}
use Rattle.hw_latency.specs.Weight.{samples}
use Rattle.hw_slots.specs.declared.bases.Bases.{Bases}
use Rattle.hw_slots.specs.declared.slots.Slots.{Slots as Made}
use Rattle.hw_slots.specs.Answer.{base_at}
use Rattle.hw_sched.specs.Slots.{Timing, base_slot}
use Rattle.hw_sched.specs.Budget.{KeepsBudget}
use Rattle.hw_sched.specs.Answer.{AreStarts, AreUnits}

-- the first slots of the levels of each block's period
pub record AreBases (diagram : Diagram) (plan : Resolved) (timing : Timing)
    (bases : Bases) : Type 0 where
  pub are : (place level : ℕ)
      → base_at bases (samples ((attributes_of diagram).period_at place)) level
      ≡ base_slot diagram (attributes_of diagram) plan timing
      (samples ((attributes_of diagram).period_at place)) level

-- the rule of budget is kept, and this is how
pub record IsServed (diagram : Diagram) (plan : Resolved) (timing : Timing)
    (made : Made) : Type 0 where
  pub budget : KeepsBudget diagram plan timing
  pub starts : AreStarts diagram plan timing made.starts
  pub units : AreUnits diagram plan timing made.units
  pub bases : AreBases diagram plan timing made.bases
