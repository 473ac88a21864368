-- The rule of budget: the slots that the shared operations of a period need stand in it (own).
use Rattle.std.specs.Prelude.{◌≡◌, ℕ, ◌≤◌, ◌<◌, [], Some}
use Rattle.dg_model.specs.declared.diagram.Diagram.{Diagram}
use Rattle.dg_model.specs.declared.fault.RuleFault.{RuleFault}
use Rattle.dg_model.specs.declared.fault.Shown.TheVariants.{Budget}
use Rattle.dg_model.specs.declared.resolved.Resolved.{Resolved}
use Rattle.dg_model.specs.declared.rule.Rule.{Rule}
use Rattle.dg_model.specs.Attributes.{attributes_of}
use Rattle.dg_model.specs.Faults.{fault_of}
use Rattle.hw_sched.specs.Slots.{Timing, need_of, have_of}

-- some block has this period
pub record IsPeriodOf (diagram : Diagram) (period : ℕ) : Type 0 where
  pub place : ℕ
  pub is : (attributes_of diagram).period_at place ≡ Some period

-- the slots of a period suffice
abbrev pub KeepsBudgetAt : Diagram → Resolved → Timing → ℕ → Type 0
KeepsBudgetAt diagram plan timing period =
    need_of diagram (attributes_of diagram) plan timing period ≤ have_of plan period

-- the rule is kept
pub record KeepsBudget (diagram : Diagram) (plan : Resolved) (timing : Timing) : Type 0 where
  pub keeps : (period : ℕ) → IsPeriodOf diagram period → KeepsBudgetAt diagram plan timing period

-- the rule is broken, first at this period
pub record BreaksBudget (diagram : Diagram) (plan : Resolved) (timing : Timing)
    (fault : RuleFault) : Type 0 where
  pub period : ℕ
  pub there : IsPeriodOf diagram period
  pub broken : have_of plan period < need_of diagram (attributes_of diagram) plan timing period
  pub least : (other : ℕ) → other < period → IsPeriodOf diagram other
      → KeepsBudgetAt diagram plan timing other
  pub fault_is : fault
      ≡ fault_of Rule.Budget []
      (Budget period (need_of diagram (attributes_of diagram) plan timing period)
      (have_of plan period))
