use Rattle.std.proofs.Common.{refl, true, false, arith}
use Rattle.hw_sched.specs.inner.Greatest.{IsReadControl, IsReadLine}
use Rattle.hw_sched.proofs.Items.{greatest_small, next_is}
use Rattle.hw_sched.proofs.deepening.depth_of.Goals as goal

pub overflow_add-result : goal.overflow_add-result
overflow_add-result c =
    let lines = greatest_small (IsReadLine c.args.checked.now.diagram c.args.place) c.args.depths.now c.lines_best-lines.result c.requires.small c.lines_best-lines.ensures in
    let control = greatest_small (IsReadControl c.args.checked.now.diagram c.args.place) c.args.depths.now c.control_best-control.result c.requires.small c.control_best-control.ensures in
    omega (arith, lines, control, c.max-best.ensures)

pub returns-then-is_shared : goal.returns-then-is_shared
returns-then-is_shared c =
    next_is c.args.checked.now.diagram c.args.plan.now c.args.depths.now c.args.place c.lines_best-lines.result c.control_best-control.result c.max-best.result _ c.is_shared.result true
    c.lines_best-lines.ensures c.control_best-control.ensures c.max-best.ensures c.is_shared.ensures c.if-is_shared.true (omega arith)

pub returns-else-is_shared : goal.returns-else-is_shared
returns-else-is_shared c =
    next_is c.args.checked.now.diagram c.args.plan.now c.args.depths.now c.args.place c.lines_best-lines.result
    c.control_best-control.result c.max-best.result c.max-best.result c.is_shared.result false
    c.lines_best-lines.ensures c.control_best-control.ensures c.max-best.ensures c.is_shared.ensures c.if-is_shared.false refl
