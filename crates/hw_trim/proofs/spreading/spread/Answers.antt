use Rattle.std.proofs.Common.{length, arith, ap}
use Rattle.hw_trim.proofs.Marks.{marks-none}
use Rattle.hw_trim.proofs.spreading.spread.Goals as goal

pub loop-done-init : goal.loop-done-init
loop-done-init c = record { marks = marks-none c.args.marks.now c.args.order.now.items c.requires.marking; served = λ i net less is. absurd (omega (arith, less)); within = omega arith }

pub loop-done-smaller : goal.loop-done-smaller
loop-done-smaller c =
    let count = c.loop-done.invariant.marks.marking.count in
    let size = c.loop-done.invariant.marks.size in
    omega (arith, c.loop-done-test.true, c.len.ensures, count, size, c.requires.size, ap length c.nets-nets.ensures)
