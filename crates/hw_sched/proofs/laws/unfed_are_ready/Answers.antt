use Rattle.std.proofs.lemmas.Bool.{cond-false}
use Rattle.hw_latency.specs.Cone.{is_marked}
use Rattle.hw_latency.specs.Weight.{samples}
use Rattle.hw_sched.specs.Level.{depth_at}
use Rattle.hw_sched.specs.Slots.{base_slot}
use Rattle.hw_sched.proofs.laws.unfed_are_ready.Goals as goal

pub returns : goal.returns
returns c = λ diagram attributes plan timing place unfed.
    cond-false (is_marked timing.fed place) (base_slot diagram attributes plan timing (samples (attributes.period_at place)) (depth_at timing.depths place)) 0 unfed
