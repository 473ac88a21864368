use Rattle.std.proofs.Common.{sym, subst}
use Rattle.hw_latency.specs.Latency.{AreLatencies}
use Rattle.hw_latency.specs.declared.latencies.Latencies.{Latencies}
use Rattle.hw_explore.specs.declared.timed.Timed.{Timed}
use Rattle.hw_explore.specs.inner.Latencies.{IsTimed}
use Rattle.hw_explore.proofs.timed.Timed.judge.Goals as goal

pub times_by-requires-clause-latencies : goal.times_by-requires-clause-latencies
times_by-requires-clause-latencies c =
    let diagram = c.args.checked.now.diagram in
    let plan = c.args.plan.now in
    let kept = subst (λ (timed : Timed). IsTimed diagram plan timed) c.in-Kept.is c.requires.timed in
    subst (λ (own : Latencies). AreLatencies diagram plan own) (sym c.in_ok-copy-in-Kept.ensures) kept
