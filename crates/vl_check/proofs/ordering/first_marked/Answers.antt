use Rattle.std.proofs.Common.{sym, ◌∙◌}
use Rattle.vl_check.specs.inner.CycleMarks.{marked_at}
use Rattle.vl_check.proofs.Beginnings.{first-found, first-passed}
use Rattle.vl_check.proofs.ordering.first_marked.Goals as goal

pub returns-in-Some : goal.returns-in-Some
returns-in-Some c =
    first-found (marked_at c.args.scope.now c.args.marks.now) c.args.text.now c.loop-mention.mention-index _
    c.loop-mention-test.true c.loop-mention.invariant c.in-Some.number (sym c.marked_at.ensures ∙ c.in-Some.is)

pub loop-mention-preserved : goal.loop-mention-preserved
loop-mention-preserved c =
    first-passed (marked_at c.args.scope.now c.args.marks.now) c.args.text.now c.loop-mention.mention-index _
    c.loop-mention-test.true c.loop-mention.invariant (sym c.marked_at.ensures ∙ c.in_default.is)
