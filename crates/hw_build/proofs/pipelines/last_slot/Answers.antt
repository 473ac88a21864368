use Rattle.std.proofs.Common.{rules, ℕ, ◌*◌, ◌<◌, ◌≤◌, arith}
use Rattle.std.proofs.Common.{mul-le-mul_right}
use Rattle.hw_lines.proofs.ChainLines.{room}
use Rattle.hw_build.proofs.pipelines.last_slot.Goals as goal

some : (period cycles : ℕ) → 0 < period → 1 ≤ cycles → 1 ≤ period * cycles
some period cycles p c = let e : 1 * cycles ≤ period * cycles = mul-le-mul_right cycles (omega (arith, p)) in omega arith

pub overflow_mul-result : goal.overflow_mul-result
overflow_mul-result c =
    let scheduled = c.requires.designed.scheduled in
    let few = room c.args.period c.args.design.plan.now.cycles
    (c.periods_are_above.ensures.short c.args.design.checked.now.diagram c.args.block c.args.period
    scheduled.checked c.requires.period) scheduled.planned.few_clocks in
    search (rules, few)

pub overflow_sub-result : goal.overflow_sub-result
overflow_sub-result c =
    let scheduled = c.requires.designed.scheduled in
    some c.args.period c.args.design.plan.now.cycles
    (c.periods_are_above.ensures.above c.args.design.checked.now.diagram c.args.block c.args.period
    scheduled.checked c.requires.period) scheduled.planned.some_clocks
