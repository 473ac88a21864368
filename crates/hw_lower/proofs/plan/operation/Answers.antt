use Rattle.hw_lower.proofs.PlanSteps.{operation-made}
use Rattle.hw_lower.proofs.plan.operation.Goals as goal

pub returns : goal.returns
returns c =
    operation-made _ _ c.args.op c.args.first c.args.second c.args.third c.put.result c.args.word c.requires.plain
    c.requires.parts c.requires.first c.requires.second c.requires.third c.requires.word c.put.ensures
