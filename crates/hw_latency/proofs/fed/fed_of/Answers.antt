use Rattle.std.proofs.Common.{◌≤◌, List, ℕ, false, length, replicate, sym, ap, subst, ◌∙◌, rules}
use Rattle.dg_model.specs.declared.diagram.Block.{Block}
use Rattle.dg_model.specs.declared.diagram.Diagram.{Diagram}
use Rattle.dg_model.specs.Periods.{periods_of}
use Rattle.dg_model.specs.Wired.{IsWired}
use Rattle.dg_sort.specs.Rows.{AreRows}
use Rattle.hw_latency.proofs.FeedMarks.{feeding_begins, feeding_ends, next_of, next_there}
use Rattle.hw_latency.proofs.fed.fed_of.Goals as goal

pub mark_one-requires-clause-there : goal.mark_one-requires-clause-there
mark_one-requires-clause-there c =
    next_there c.args.checked.now.diagram c.args.checked.now.order c.loop-place.place-index _
    (next_of c.args.checked.now.diagram c.args.checked.now.order c.order-place-items.result.now
    c.loop-place.place-index c.order-place-items.ensures c.loop-place-test.true
    c.keeps_rules.ensures.ordered)

pub loop-place-preserved : goal.loop-place-preserved
loop-place-preserved c =
    c.mark_one.ensures c.args.checked.now.order c.loop-place.place-index
    (next_of c.args.checked.now.diagram c.args.checked.now.order c.order-place-items.result.now
    c.loop-place.place-index c.order-place-items.ensures c.loop-place-test.true c.keeps_rules.ensures.ordered)
    c.loop-place.invariant

pub returns : goal.returns
returns c =
    feeding_ends c.args.checked.now.diagram c.args.plan.now c.args.checked.now.order c.loop-place.fed.items c.loop-place.place-index c.keeps_rules.ensures.ordered
    (subst (λ (order : List ℕ). length order ≤ c.loop-place.place-index) c.order-place-items.ensures c.loop-place-test.false) c.loop-place.invariant

pub rows_of-requires-clause-wired : goal.rows_of-requires-clause-wired
rows_of-requires-clause-wired c = subst (λ (d : Diagram). IsWired d) (sym c.diagram-diagram.ensures) c.keeps_rules.ensures.checked.wired

pub rows_of-requires-clause-periods : goal.rows_of-requires-clause-periods
rows_of-requires-clause-periods c = c.as_slice.ensures.value ∙ c.in_ok-periods.ensures ∙ ap periods_of (sym c.diagram-diagram.ensures)

pub loop-place-init : goal.loop-place-init
loop-place-init c =
    let count = ap (λ (bs : List Block). length bs) (c.as_slice-2.ensures ∙ ap (λ (d : Diagram). d.blocks) c.diagram-diagram.ensures) in
    feeding_begins c.args.checked.now.diagram c.args.plan.now c.args.checked.now.order c.in_ok-fed.fed.items
    (c.in_ok-fed.ensures.items_if_clones_equal (search rules) ∙ ap (λ (n : ℕ). replicate n false) count)

pub mark_one-requires-clause-rows : goal.mark_one-requires-clause-rows
mark_one-requires-clause-rows c =
    subst (λ (rows : List (List ℕ)). AreRows c.args.checked.now.diagram rows) (sym c.as_slice-in-loop-place.ensures.value)
    (subst (λ (d : Diagram). AreRows d c.in_ok-rows.rows.items) c.diagram-diagram.ensures c.in_ok-rows.ensures)

pub mark_one-requires-clause-size : goal.mark_one-requires-clause-size
mark_one-requires-clause-size c = c.loop-place.invariant.size
