use Rattle.std.proofs.Common.{ℕ, List, sym, subst}
use Rattle.hw_sched.specs.Answer.{timing_of}
use Rattle.hw_sched.specs.Ready.{AreReady}
use Rattle.hw_rules.proofs.times.times_by.Goals as goal

pub returns-in-Err-clause-refused : goal.returns-in-Err-clause-refused
returns-in-Err-clause-refused c = c.of_budget.ensures c.args.checked.now.diagram c.args.plan.now c.args.latencies c.in-Err.ensures.short

pub returns-in-Ok-check_size-clause-times : goal.returns-in-Ok-check_size-clause-times
returns-in-Ok-check_size-clause-times c = record {
  latencies = c.requires.latencies;
  slots = c.in-Ok.ensures.slots;
  size = c.in-Ok-check_size.ensures.kept c.in-Ok.slots.depths
      (subst (λ (ready : List ℕ). AreReady c.args.checked.now.diagram c.args.plan.now
      (timing_of c.args.latencies c.in-Ok.slots.depths) ready)
      (sym c.as_slice.ensures) c.in-Ok.ensures.slots.ready);
}
