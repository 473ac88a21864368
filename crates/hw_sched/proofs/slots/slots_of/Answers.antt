use Rattle.hw_sched.proofs.DiagramSlots.{timed_by, slots_are}
use Rattle.hw_sched.proofs.slots.slots_of.Goals as goal

pub slots_by_depths-requires-clause-timed : goal.slots_by_depths-requires-clause-timed
slots_by_depths-requires-clause-timed c =
    timed_by c.args.checked.now.diagram c.args.plan.now c.args.latencies.now c.in_ok-depths.depths
    c.as_slice-by_block.result.now c.as_slice-by_block.ensures c.requires.latencies c.in_ok-depths.ensures

pub returns-clause-slots : goal.returns-clause-slots
returns-clause-slots c = slots_are c.args.checked.now.diagram c.args.plan.now c.args.latencies.now
    c.in_ok-depths.depths c.as_slice-by_block.result.now c.in_ok-made.made c.in_ok-ready.ready
    c.as_slice-by_block.ensures c.requires.latencies c.in_ok-depths.ensures c.in_ok-made.ensures.slots
    c.in_ok-ready.ensures
