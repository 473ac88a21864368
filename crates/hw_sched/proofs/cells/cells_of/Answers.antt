use Rattle.std.proofs.Common.{◌+◌, List, sym, subst, arith}
use Rattle.hw_sched.specs.Slots.{Operation}
use Rattle.hw_sched.specs.Answer.{timing_of}
use Rattle.hw_sched.specs.inner.Cells.{AreCellsBut}
use Rattle.hw_sched.proofs.CellNumbers.{operations_from, operations_first, operations_next, cells_end}
use Rattle.hw_sched.proofs.cells.cells_of.Goals as goal

pub loop-place-init : goal.loop-place-init
loop-place-init c =
    let timing = timing_of c.args.latencies.now c.args.depths.now in
    subst (λ (rest : List Operation). AreCellsBut c.args.checked.now.diagram c.args.plan.now timing rest c.new-cells.result) (sym (operations_first c.args.checked.now.diagram c.args.plan.now timing))
    (c.new-cells.ensures c.args.checked.now.diagram c.args.plan.now timing)

pub loop-place-preserved : goal.loop-place-preserved
loop-place-preserved c =
    let timing = timing_of c.args.latencies.now c.args.depths.now in
    let below = c.loop-place-test.true in
    let size = c.requires.depths in
    c.in_ok-put_block.ensures (operations_from c.args.checked.now.diagram c.args.plan.now timing (c.loop-place.place + 1))
    (subst (λ (rest : List Operation). AreCellsBut c.args.checked.now.diagram c.args.plan.now timing rest c.loop-place.cells)
    (operations_next c.args.checked.now.diagram c.args.plan.now timing c.loop-place.place (omega (arith, below, size))) c.loop-place.invariant)

pub returns : goal.returns
returns c =
    let timing = timing_of c.args.latencies.now c.args.depths.now in
    let past = c.loop-place-test.false in
    let size = c.requires.depths in
    cells_end c.args.checked.now.diagram c.args.plan.now timing c.loop-place.place c.loop-place.cells (omega (arith, past, size)) c.loop-place.invariant
