-- What a plan is worth by its times, or by the rule that it breaks.
use Rattle.std.proofs.Common.{◌≡◌, ℕ, List, [], inl, inr, ap, subst}
use Rattle.dg_model.specs.declared.diagram.Diagram.{Diagram}
use Rattle.dg_model.specs.declared.fault.RuleFault.{RuleFault}
use Rattle.dg_model.specs.declared.resolved.Resolved.{Resolved}
use Rattle.dg_model.specs.Attributes.{attributes_of}
use Rattle.dg_model.specs.Faults.{fault_of}
use Rattle.hw_sched.specs.Ready.{owed}
use Rattle.hw_rules.specs.declared.times.Times.{Times}
use Rattle.hw_rules.specs.Rules.{BreaksTimes}
use Rattle.hw_rules.specs.Times.{AreTimes, timing_in}
use Rattle.hw_explore.specs.Candidates.{IsGood}

pub is_good : (diagram : Diagram) (plan : Resolved) (times : Times) (count : ℕ) → AreTimes diagram plan times
    → count ≡ owed diagram (attributes_of diagram) plan (timing_in times)
    → IsGood diagram plan count times.sizing.latency
is_good diagram plan times count are is = record {
  timing = timing_in times;
  keeps = record { timed = are.slots.timed; budget = are.slots.budget; size = are.size.keeps };
  multiplications_are = is;
  latency_is = are.size.size.latency_is;
}

-- rules of times are broken by a model as a whole
whole_model : (diagram : Diagram) (plan : Resolved) (fault : RuleFault) → BreaksTimes diagram plan fault → fault.place ≡ []
whole_model diagram plan fault (inl latency) = ap (λ (told : RuleFault). told.place) latency.fault_is
whole_model diagram plan fault (inr (inl budget)) = ap (λ (told : RuleFault). told.place) budget.broken.fault_is
whole_model diagram plan fault (inr (inr size)) = ap (λ (told : RuleFault). told.place) size.broken.fault_is

pub is_bad : (diagram : Diagram) (plan : Resolved) (fault : RuleFault) → BreaksTimes diagram plan fault → BreaksTimes diagram plan (fault_of fault.rule [] fault.shown)
is_bad diagram plan fault broken =
    subst (λ (place : List ℕ). BreaksTimes diagram plan (fault_of fault.rule place fault.shown)) (whole_model diagram plan fault broken) broken
