use Rattle.std.proofs.Common.{◌≡◌, Some, List, slice_get, ap, subst, sym, ◌∙◌}
use Rattle.std.proofs.lemmas.List.{take_all}
use Rattle.std.proofs.lemmas.Option.{slice_get-get_or}
use Rattle.dg_model.specs.declared.plan.Pipeline.{Pipeline}
use Rattle.dg_rules.specs.inner.Ends.{HasEnds, HaveEnds}
use Rattle.dg_rules.proofs.PathEnds.{one_more_line}
use Rattle.dg_rules.proofs.ends.Ends.of.Goals as goal

pub loop-pipeline-preserved : goal.loop-pipeline-preserved
loop-pipeline-preserved c =
    let lines = c.args.pipelines.now in
    let i = c.loop-pipeline.pipeline-index in
    let line = c.pipeline-item.result in
    let at : slice_get lines i ≡ Some line = slice_get-get_or lines i line c.loop-pipeline-test.true ∙ ap Some (sym c.pipeline-item.is) in
    one_more_line lines i line c.loop-pipeline.by_bytes.entries c.put_ends.new.ends.entries c.loop-pipeline-test.true at c.in_ok-put_ends.ensures.kept
    (subst (HasEnds c.put_ends.new.ends.entries) c.bytes.ensures c.in_ok-put_ends.ensures.ends) c.loop-pipeline.invariant

pub returns : goal.returns
returns c = subst (λ (lines : List Pipeline). HaveEnds lines c.loop-pipeline.by_bytes.entries)
    (take_all c.loop-pipeline.pipeline-index c.args.pipelines.now c.loop-pipeline-test.false)
    c.loop-pipeline.invariant
