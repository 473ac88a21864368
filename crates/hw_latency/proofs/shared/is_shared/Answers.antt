use Rattle.std.proofs.Common.{ap, ◌∙◌}
use Rattle.hw_latency.specs.Shared.{shares}
use Rattle.hw_latency.proofs.Weights.{shared_as, unshared_as}
use Rattle.hw_latency.proofs.shared.is_shared.Goals as goal

pub returns-then-not-multiplies : goal.returns-then-not-multiplies
returns-then-not-multiplies c = unshared_as c.args.checked.now.diagram c.args.plan.now c.args.place
    c.block_at-block.result.now c.multiplies.result c.block_at-block.ensures c.multiplies.ensures
    c.if-not-multiplies.true

pub returns : goal.returns
returns c =
    shared_as c.args.checked.now.diagram c.args.plan.now c.args.place c.block_at-block.result.now
    c.multiplies.result c.shares.result c.block_at-block.ensures c.multiplies.ensures c.if-not-multiplies.false
    (c.shares.ensures ∙ ap (shares c.args.plan.now) c.period.ensures)
