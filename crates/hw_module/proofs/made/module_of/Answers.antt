use Rattle.std.proofs.lemmas.Result.{IfOk-weaker}
use Rattle.hw_sched.specs.Answer.{timing_of}
use Rattle.hw_module.proofs.Emission.{emission-of}
use Rattle.hw_module.proofs.made.module_of.Goals as goal

pub returns-clause-owed : goal.returns-clause-owed
returns-clause-owed c =
    let e = c.emit.ensures in
    let scheduled = c.slots_are_scheduled.ensures c.args.checked.now.diagram c.args.plan.now c.args.latencies.now c.args.slots.now c.keeps_rules.ensures.checked c.requires.plan c.requires.slots in
    IfOk-weaker c.emit.result _ _
    (λ m made. c.refined_modules_owe_nothing.ensures c.args.netlist.now c.args.checked.now.diagram c.args.plan.now
    (timing_of c.args.latencies.now c.args.slots.now.depths) m scheduled c.requires.refined made)
    (emission-of c.args.netlist.now c.emit.result e.header e.conditions e.keeps e.nets e.outputs e.products e.reads e.registers e.labels e.items e.names e.fit)
