use Rattle.std.proofs.Common.{sym, subst}
use Rattle.dg_model.specs.declared.resolved.Resolved.{Resolved}
use Rattle.hw_explore.specs.inner.Latencies.{IsTimed}
use Rattle.hw_explore.proofs.judging.finding_at.Goals as goal

pub judge-verdict-requires-clause-timed : goal.judge-verdict-requires-clause-timed
judge-verdict-requires-clause-timed c =
    subst (λ (plan : Resolved). IsTimed c.args.checked.now.diagram plan c.at.result.now) (sym c.in_ok-plan.ensures.is) (c.at.ensures c.args.checked.now.diagram c.requires.timed)
