use Rattle.hw_rules.proofs.times.times_of.Goals as goal

pub returns-in-Err-clause-refused : goal.returns-in-Err-clause-refused
returns-in-Err-clause-refused c = c.of_latency.ensures c.args.checked.now.diagram c.args.plan.now c.in-Err.ensures.broken
