use Rattle.std.proofs.Common.{sym, subst}
use Rattle.hw_sched.specs.Answer.{timing_of}
use Rattle.hw_sched.specs.Ready.{AreReady}
use Rattle.hw_build.specs.inner.HubPlaces.{hubs_in_all}
use Rattle.hw_build.proofs.building.build.Goals as goal

pub put_all-requires-clause-can : goal.put_all-requires-clause-can
put_all-requires-clause-can c = record {
  designed = record {
    scheduled = c.slots_are_scheduled.ensures c.args.checked.now.diagram c.args.plan.now
        c.args.latencies.now c.args.slots.now c.keeps_rules.ensures.checked c.requires.plan c.requires.slots;
  };
  slots = c.requires.slots;
  small = (c.in_ok-sizing.ensures.kept c.args.slots.now.depths
      (subst (AreReady c.args.checked.now.diagram c.args.plan.now
      (timing_of c.args.latencies.now c.args.slots.now.depths))
      (sym c.as_slice.ensures) c.requires.slots.ready)).keeps;
}

pub returns-in-Ok-clause-built : goal.returns-in-Ok-clause-built
returns-in-Ok-clause-built c =
    let scheduled = c.slots_are_scheduled.ensures c.args.checked.now.diagram c.args.plan.now c.args.latencies.now c.args.slots.now c.keeps_rules.ensures.checked c.requires.plan c.requires.slots in
    record {
      built = c.done_is_built.ensures c.args.checked.now.diagram c.args.checked.now.order c.args.plan.now
          (timing_of c.args.latencies.now c.args.slots.now.depths) c.in-Ok.ensures.places
          (hubs_in_all c.args.checked.now.diagram) c.put_all.new.net
          (record { checked = c.keeps_rules.ensures.checked; ordered = c.keeps_rules.ensures.ordered }) scheduled c.in-Ok.ensures.done;
      small = (c.in_ok-sizing.ensures.kept c.args.slots.now.depths
          (subst (AreReady c.args.checked.now.diagram c.args.plan.now
          (timing_of c.args.latencies.now c.args.slots.now.depths))
          (sym c.as_slice.ensures) c.requires.slots.ready)).keeps;
    }
