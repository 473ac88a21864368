use Rattle.std.proofs.Common.{sym, ◌∙◌, arith}
use Rattle.std.proofs.Math.Nat.{div-le_self}
use Rattle.hw_sched.proofs.edge_lines.line_registers.Goals as goal

pub nonzero_div-depth : goal.nonzero_div-depth
nonzero_div-depth c =
    let above = c.periods_are_above.ensures.above c.args.checked.now.diagram c.args.line.from c.in-Some.period c.keeps_rules.ensures.checked (sym c.period.ensures ∙ c.in-Some.is) in
    let same = c.from.ensures in
    omega (arith, above, same)

pub overflow_add-depth : goal.overflow_add-depth
overflow_add-depth c =
    let small = c.line_shift-shift.ensures.small in
    record { fits = omega (arith, div-le_self c.line_shift-shift.result c.from.result, small) }
