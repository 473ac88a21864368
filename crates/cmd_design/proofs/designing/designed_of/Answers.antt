use Rattle.cmd_design.proofs.designing.designed_of.Goals as goal

pub returns-in-Err-clause-refused : goal.returns-in-Err-clause-refused
returns-in-Err-clause-refused c = c.of_model.ensures c.args.model.now c.args.plan.now c.in-Err.ensures.refused
