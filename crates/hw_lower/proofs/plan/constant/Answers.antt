use Rattle.std.specs.Int.{w128}
use Rattle.std.proofs.lemmas.Int.{to_z-of_z}
use Rattle.hw_lower.proofs.PlanSteps.{constant-made}
use Rattle.hw_lower.proofs.plan.constant.Goals as goal

pub returns : goal.returns
returns c =
    let own = to_z-of_z w128 c.args.value c.ranges.value in
    constant-made _ _ c.args.value c.args.word c.put_alone.result c.requires.word c.requires.value (rw own at c.put_alone.ensures)
