use Rattle.std.proofs.Common.{◌≤◌, List, length, ap, subst, ◌∙◌}
use Rattle.dg_model.specs.declared.diagram.Block.{Block}
use Rattle.dg_model.specs.declared.diagram.Diagram.{Diagram}
use Rattle.hw_latency.specs.Weight.{samples}
use Rattle.hw_sched.proofs.SpanLines.{within_more, counted_all}
use Rattle.hw_sched.proofs.spans.count_of.Goals as goal

pub loop-place-preserved : goal.loop-place-preserved
loop-place-preserved c =
    within_more c.args.checked.now.diagram c.loop-place.place c.loop-place.longest c.max-longest.result c.from.result c.keeps_rules.ensures.checked
    (c.from.ensures ∙ c.samples.ensures ∙ ap samples c.period.ensures) c.max-longest.ensures c.loop-place.invariant

pub returns : goal.returns
returns c =
    counted_all c.args.checked.now.diagram c.loop-place.place c.loop-place.longest
    (subst (λ (bs : List Block). length bs ≤ c.loop-place.place) (c.as_slice-place-end.ensures ∙ ap (λ (d : Diagram). d.blocks) c.diagram.ensures) c.loop-place-test.false) c.loop-place.invariant
