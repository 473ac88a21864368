use Rattle.std.proofs.Common.{◌<◌, ◌≤◌, List, length, ap, subst, ◌∙◌}
use Rattle.dg_model.specs.declared.diagram.Block.{Block}
use Rattle.dg_model.specs.declared.diagram.Diagram.{Diagram}
use Rattle.hw_latency.proofs.PeriodLists.{period_more, periods_end}
use Rattle.hw_latency.proofs.periods.periods_of.Goals as goal

pub loop-block-preserved : goal.loop-block-preserved
loop-block-preserved c =
    c.in_ok-push.ensures.items
    ∙ period_more c.args.checked.now.diagram c.loop-block.periods.items c.loop-block.block c.period.result
    (subst (λ (bs : List Block). c.loop-block.block < length bs)
    (c.as_slice-count.ensures ∙ ap (λ (d : Diagram). d.blocks) c.diagram.ensures) c.loop-block-test.true)
    c.period.ensures c.loop-block.invariant

pub returns : goal.returns
returns c =
    periods_end c.args.checked.now.diagram c.loop-block.periods.items c.loop-block.block
    (subst (λ (bs : List Block). length bs ≤ c.loop-block.block) (c.as_slice-count.ensures ∙ ap (λ (d : Diagram). d.blocks) c.diagram.ensures) c.loop-block-test.false) c.loop-block.invariant
