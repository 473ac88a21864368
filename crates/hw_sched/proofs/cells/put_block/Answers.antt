use Rattle.std.proofs.Common.{◌+◌, List, [], ◌++◌, sym, subst, ◌∙◌, arith}
use Rattle.std.proofs.lemmas.Bool.{cond-true, cond-false}
use Rattle.dg_model.specs.Attributes.{attributes_of}
use Rattle.hw_latency.specs.Shared.{is_shared}
use Rattle.hw_sched.specs.Answer.{timing_of}
use Rattle.hw_sched.specs.Slots.{Operation, operation, operations_of}
use Rattle.hw_sched.specs.inner.Cells.{AreCellsBut}
use Rattle.hw_sched.proofs.CellNumbers.{elements_from, elements_first, elements_next, elements_last}
use Rattle.hw_sched.proofs.cells.put_block.Goals as goal

pub returns-then-not-is_shared : goal.returns-then-not-is_shared
returns-then-not-is_shared c =
    let diagram = c.args.checked.now.diagram in
    let none = cond-false (is_shared diagram (attributes_of diagram) c.args.plan.now c.args.place)
    (operations_of (attributes_of diagram) c.args.place) []
    (sym c.is_shared.ensures ∙ c.if-not-is_shared.true) in
    λ rest are. subst (λ (os : List Operation). AreCellsBut diagram c.args.plan.now (timing_of c.args.latencies.now c.args.depths.now) (os ++ rest) c.args.cells.now) none are

pub loop-element-init : goal.loop-element-init
loop-element-init c = λ rest before.
    let diagram = c.args.checked.now.diagram in
    let timing = timing_of c.args.latencies.now c.args.depths.now in
    let all = cond-true (is_shared diagram (attributes_of diagram) c.args.plan.now c.args.place)
    (operations_of (attributes_of diagram) c.args.place) []
    (sym c.is_shared.ensures ∙ c.if-not-is_shared.false) in
    subst (λ (os : List Operation). AreCellsBut diagram c.args.plan.now timing (os ++ rest) c.args.cells.now) (all ∙ sym (elements_first diagram c.args.plan.now timing c.args.place)) before

pub loop-element-preserved : goal.loop-element-preserved
loop-element-preserved c = λ rest before.
    let timing = timing_of c.args.latencies.now c.args.depths.now in
    let width = c.own_width-width.ensures in
    let below = c.loop-element-test.true in
    c.in_ok-put.ensures c.args.checked.now.diagram c.args.plan.now timing
    (operation c.args.place c.loop-element._element)
    (elements_from c.args.checked.now.diagram c.args.plan.now timing c.args.place
    (c.loop-element._element + 1) ++ rest) c.sort_of-sort.ensures
    (subst (λ (operations : List Operation). AreCellsBut c.args.checked.now.diagram c.args.plan.now timing (operations ++ rest) c.loop-element.cells)
    (elements_next c.args.checked.now.diagram c.args.plan.now timing c.args.place c.loop-element._element (omega (arith, width, below))) (c.loop-element.invariant rest before))

pub returns : goal.returns
returns c = λ rest before.
    let timing = timing_of c.args.latencies.now c.args.depths.now in
    let width = c.own_width-width.ensures in
    let past = c.loop-element-test.false in
    subst (λ (operations : List Operation). AreCellsBut c.args.checked.now.diagram c.args.plan.now timing (operations ++ rest) c.loop-element.cells)
    (elements_last c.args.checked.now.diagram c.args.plan.now timing c.args.place c.loop-element._element (omega (arith, width, past))) (c.loop-element.invariant rest before)
