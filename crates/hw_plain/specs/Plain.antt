-- What plans without sharing and pipelining leave of times and rules (own).
use Rattle.std.specs.Prelude.{◌≡◌, ℕ, ◌≤◌, ◌<◌, [], filter, length, map}
use Rattle.std.specs.List.{sum}
use Rattle.math_list.specs.Numbers.{numbers_from}
use Rattle.dg_model.specs.declared.diagram.Diagram.{Diagram}
use Rattle.dg_model.specs.declared.fault.RuleFault.{RuleFault}
use Rattle.dg_model.specs.declared.fault.Shown.TheVariants.{Size}
use Rattle.dg_model.specs.declared.plan.Plan.{Plan}
use Rattle.dg_model.specs.declared.resolved.Resolved.{Resolved}
use Rattle.dg_model.specs.declared.rule.Rule.{Rule}
use Rattle.dg_model.specs.Attributes.{attributes_of}
use Rattle.dg_model.specs.Checked.{IsChecked}
use Rattle.dg_model.specs.Faults.{fault_of}
use Rattle.hw_arcs.specs.Latencies.{latency_at}
use Rattle.hw_latency.specs.Shared.{multiplies}
use Rattle.hw_rules.specs.Rules.{BreaksPlanRule, IsFoundIn}
use Rattle.hw_sched.specs.Ready.{declared_latency, owed, ready_of}
use Rattle.hw_sched.specs.Scheduled.{IsTimingOf}
use Rattle.hw_sched.specs.Slots.{Timing}
use Rattle.hw_sched.specs.Storage.{most_storage, storage}

-- a plan by which no multiplier is shared and no block has registers behind it
pub record IsPlain (plan : Plan) : Type 0 where
  pub unshared : plan.multipliers ≡ 0
  pub unpipelined : plan.pipelines ≡ []

-- how many elements the products and gains of a diagram have
abbrev pub multiplied_elements : Diagram → ℕ
multiplied_elements diagram =
    sum (map (λ place. (attributes_of diagram).width_at place 1)
    (filter (multiplies diagram) (numbers_from 0 (length diagram.blocks))))

-- no block is late, each is ready at once, and each element of a product or a gain has a
-- multiplication of its own
pub record IsAtOnce (diagram : Diagram) (plan : Resolved) (timing : Timing) : Type 0 where
  pub latency : (place : ℕ) → latency_at timing.lat place ≡ 0
  pub ready : (place : ℕ) → ready_of diagram (attributes_of diagram) plan timing place ≡ 0
  pub declared : (place : ℕ)
      → declared_latency diagram (attributes_of diagram) plan timing place ≡ 0
  pub owes : owed diagram (attributes_of diagram) plan timing ≡ multiplied_elements diagram

-- so it is by such a plan
abbrev pub PlainPlansAreAtOnce : Type 0
PlainPlansAreAtOnce =
    (diagram : Diagram) (plan : Plan) (resolved : Resolved) (timing : Timing) → IsChecked diagram
    → IsPlain plan → IsFoundIn diagram plan resolved → IsTimingOf diagram resolved timing
    → IsAtOnce diagram resolved timing

-- the paths of a plan are found, and a module by it has too much storage, with this fault
pub record BreaksStorage (diagram : Diagram) (plan : Plan) (fault : RuleFault) : Type 0 where
  pub resolved : Resolved
  pub timing : Timing
  pub found : IsFoundIn diagram plan resolved
  pub timed : IsTimingOf diagram resolved timing
  pub above : most_storage < storage diagram (attributes_of diagram) resolved timing
  pub fault_is : fault
      ≡ fault_of Rule.Size [] (Size (storage diagram (attributes_of diagram) resolved timing) 0)

-- of the rules on plans such a plan, of some clocks, can break that of storage alone
abbrev pub PlainPlansBreakStorage : Type 0
PlainPlansBreakStorage =
    (diagram : Diagram) (plan : Plan) (fault : RuleFault) → IsChecked diagram → IsPlain plan
    → 1 ≤ plan.cycles → BreaksPlanRule diagram plan fault → BreaksStorage diagram plan fault
