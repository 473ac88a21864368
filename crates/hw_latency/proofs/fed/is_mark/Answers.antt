use Rattle.std.proofs.Common.{sym, ◌∙◌}
use Rattle.hw_latency.proofs.Marks.{mark_behind, mark_own}
use Rattle.hw_latency.proofs.fed.is_mark.Goals as goal

pub returns-then-is_shared : goal.returns-then-is_shared
returns-then-is_shared c = mark_own c.args.checked.now.diagram c.args.plan.now c.args.marks.now c.args.row.now c.args.place (sym c.is_shared.ensures ∙ c.if-is_shared.true)

pub returns : goal.returns
returns c = mark_behind c.args.checked.now.diagram c.args.plan.now c.args.marks.now c.args.row.now c.args.place
    c.is_any_marked.result
    (sym c.is_shared.ensures ∙ c.if-is_shared.false) c.is_any_marked.ensures.yes c.is_any_marked.ensures.no
