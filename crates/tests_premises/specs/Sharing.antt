-- Which operations of the whole model share the multiplier, and when its output shows them (own).
use Rattle.std.specs.Prelude.{◌≡◌, [], ◌∷◌}
use Rattle.dg_model.specs.PlanOf.{stages_at}
use Rattle.dg_model.specs.Signals.{Attributes}
use Rattle.hw_sched.specs.Ready.{declared_latency, owed}
use Rattle.hw_sched.specs.Slots.{operation, shared_operations, slot_of, unit_of}
use Rattle.tests_premises.specs.Whole.{diagram, resolved, timing}

-- both elements of the Gain are served by one multiplier, in the first clock and in the next, a
-- register stands behind each, and the output shows a hit from the sixth clock on
pub record AreSharedByOne (attributes : Attributes) : Type 0 where
  pub both : shared_operations diagram attributes resolved ≡ operation 1 0 ∷ operation 1 1 ∷ []
  pub first_slot : slot_of diagram attributes resolved timing 0 (operation 1 0) ≡ 0
  pub second_slot : slot_of diagram attributes resolved timing 1 (operation 1 1) ≡ 1
  pub first_unit : unit_of diagram attributes resolved timing 0 (operation 1 0) ≡ 0
  pub second_unit : unit_of diagram attributes resolved timing 1 (operation 1 1) ≡ 0
  pub multiplications : owed diagram attributes resolved timing ≡ 1
  pub registers : stages_at resolved 1 ≡ 1
  pub latency : declared_latency diagram attributes resolved timing 2 ≡ 5
