use Rattle.std.proofs.Common.{List, ℕ, false, get_or, refl, ap}
use Rattle.hw_latency.proofs.Weights.{arc_as, idle_as}
use Rattle.hw_latency.proofs.weight.arc_between.Goals as goal

pub returns-in_default-clause-is : goal.returns-in_default-clause-is
returns-in_default-clause-is c = idle_as c.args.checked.now.diagram c.args.plan.now c.args.fed.now c.args.from c.args.to c.period.result c.period.ensures c.in_default.is

pub returns-clause-is : goal.returns-clause-is
returns-clause-is c =
    arc_as c.args.checked.now.diagram c.args.plan.now c.args.fed.now c.args.from c.args.to c.in-Some.period
    c.samples-own.result
    (get_or c.as_slice.result.now c.args.from 0) c.gain_into-gain.result c.slack_into-slack.result
    c.period.result c.period-end.result (get_or c.args.fed.now c.args.from false) c.is_registered-registered.result c.block_at-block.result.now
    c.period.ensures c.in-Some.is c.period-end.ensures c.samples-own.ensures c.block_at-block.ensures
    c.is_registered-registered.ensures refl
    (ap (λ (xs : List ℕ). get_or xs c.args.from 0) c.as_slice.ensures) c.gain_into-gain.ensures.is
    c.slack_into-slack.ensures
