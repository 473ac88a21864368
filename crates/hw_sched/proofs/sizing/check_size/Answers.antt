use Rattle.std.proofs.Common.{◌∙◌}
use Rattle.dg_model.specs.Attributes.{attributes_of}
use Rattle.hw_sched.specs.Answer.{timing_of}
use Rattle.hw_sched.specs.Sizing.{ForTimes, IsSizeOf}
use Rattle.hw_sched.specs.Storage.{storage}
use Rattle.hw_sched.proofs.RegisterCounts.{storage_as, latest_is}
use Rattle.hw_sched.proofs.Limits.{kept_as, broken_as}
use Rattle.hw_sched.proofs.sizing.check_size.Goals as goal
use Rattle.hw_sched.proofs.sizing.check_size.Goals.{In_ok-latency}

sized : (c : In_ok-latency) → ForTimes c.args.checked.now.diagram c.args.plan.now c.args.latencies.now
    c.args.ready.now (IsSizeOf c.args.checked.now.diagram c.args.plan.now
    (record { storage = c.in_ok-storage.storage; latency = c.in_ok-latency.latency }))
sized c depths are = record {
  storage_is =
      c.in_ok-storage.ensures (storage c.args.checked.now.diagram (attributes_of c.args.checked.now.diagram) c.args.plan.now (timing_of c.args.latencies.now depths))
      (storage_as c.args.checked.now.diagram c.args.plan.now c.args.latencies.now depths c.lines_in_all-lines.result
      c.blocks_in_all-blocks.result c.saturating_add.result c.lines_in_all-lines.ensures
      c.blocks_in_all-blocks.ensures c.saturating_add.ensures);
  latency_is = c.in_ok-latency.ensures _ c.latest_output.ensures
      ∙ latest_is c.args.checked.now.diagram c.args.plan.now c.args.latencies.now c.args.ready.now depths
      c.keeps_rules.ensures.checked.wired c.root_elements_are_listed.ensures.outputs are;
}

pub lines_in_all-lines-requires : goal.lines_in_all-lines-requires
lines_in_all-lines-requires c = record { planned = c.requires.plan; known = c.requires.latencies }

pub returns-then-is_within-clause-kept : goal.returns-then-is_within-clause-kept
returns-then-is_within-clause-kept c = λ depths are.
    kept_as c.args.checked.now.diagram c.args.plan.now _ (timing_of c.args.latencies.now depths) c.is_within.result
    (sized (goal.at.returns-then-is_within-clause-kept c).In_ok-latency depths are) c.is_within.ensures
    c.if-is_within.true

pub returns-else-is_within-clause-broken : goal.returns-else-is_within-clause-broken
returns-else-is_within-clause-broken c = λ depths are.
    broken_as c.args.checked.now.diagram c.args.plan.now _
    (timing_of c.args.latencies.now depths) c.is_within.result
    (sized (goal.at.returns-else-is_within-clause-broken c).In_ok-latency depths are) c.is_within.ensures
    c.if-is_within.false
