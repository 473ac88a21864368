use Rattle.std.proofs.Common.{◌≡◌, ◌≤◌, ◌+◌, ◌-◌, ◌<◌, ℕ, suc, map, sum, arith}
use Rattle.math_list.specs.Numbers.{numbers_from}
use Rattle.dg_model.specs.Attributes.{attributes_of}
use Rattle.dg_model.specs.Wires.{width_into}
use Rattle.dg_tables.proofs.Lists.{part_here}
use Rattle.math_list.proofs.Sums.{sum_last}
use Rattle.dg_sim.proofs.MuxDemux.{before_end}
use Rattle.dg_sim.proofs.joining.part_into.Goals as goal
use Rattle.dg_sim.proofs.joining.part_into.Goals.{After-start_cursor-start, In-loop-width}

-- the first ports have so many elements together
at_start : (c : After-start_cursor-start)
    → c.start_cursor-start.result.before ≡ sum
    (map (width_into c.args.checked.now.diagram (attributes_of c.args.checked.now.diagram) c.args.block)
    (numbers_from 1 c.start_cursor-start.result.ports))
at_start c = c.start_cursor-start.ensures.sums (width_into c.args.checked.now.diagram (attributes_of c.args.checked.now.diagram)) c.requires.into

-- none of them is the last
start_below : (c : After-start_cursor-start) → c.start_cursor-start.result.ports < c.args.inputs
start_below c =
    before_end (width_into c.args.checked.now.diagram (attributes_of c.args.checked.now.diagram) c.args.block)
    c.args.inputs c.start_cursor-start.result.ports c.start_cursor-start.result.before c.args.element
    c.start_cursor-start.ensures.ports (at_start c) c.start_cursor-start.ensures.before c.requires.element

-- so it is with one port more
at_next : (c : In-loop-width) → c.loop-width.before + c.loop-width.width
    ≡ sum (map (width_into c.args.checked.now.diagram (attributes_of c.args.checked.now.diagram) c.args.block)
    (numbers_from 1 (c.loop-width.signal + 1)))
at_next c =
    let inv = c.loop-width.invariant in
    omega (arith, inv.at, sum_last (width_into c.args.checked.now.diagram (attributes_of c.args.checked.now.diagram) c.args.block) c.loop-width.signal, inv.width)

next_low : (c : In-loop-width) → c.loop-width.before + c.loop-width.width ≤ c.args.element
next_low c = omega (arith, c.loop-width.invariant.low, c.loop-width-test.true)

next_below : (c : In-loop-width) → c.loop-width.signal + 1 < c.args.inputs
next_below c =
    before_end (width_into c.args.checked.now.diagram (attributes_of c.args.checked.now.diagram) c.args.block)
    c.args.inputs (c.loop-width.signal + 1) (c.loop-width.before + c.loop-width.width) c.args.element
    (omega (arith, c.loop-width.invariant.below)) (at_next c) (next_low c) c.requires.element

pub loop-width-init : goal.loop-width-init
loop-width-init c =
    let start = (goal.at.loop-width-init c).After-start_cursor-start in
    record { at = at_start start; low = c.start_cursor-start.ensures.before; below = start_below start; width = c.width_of_input-width.ensures }

pub returns : goal.returns
returns c =
    let diagram = c.args.checked.now.diagram in
    let f = width_into diagram (attributes_of diagram) c.args.block in
    let inv = c.loop-width.invariant in
    let signal : ℕ = c.loop-width.signal in
    let next : signal + 1 ≡ suc signal = omega arith in
    let left : c.args.element - c.loop-width.before < c.loop-width.width = omega (arith, c.loop-width-test.false) in
    let at : c.args.element ≡ sum (map f (numbers_from 1 signal)) + (c.args.element - c.loop-width.before) = omega (arith, inv.at, inv.low) in
    (signal, next, part_here f c.args.inputs signal (c.args.element - c.loop-width.before) c.loop-width.width c.args.element inv.below inv.width left at, inv.at)

pub loop-width-preserved : goal.loop-width-preserved
loop-width-preserved c =
    let turn = (goal.at.loop-width-preserved c).In-loop-width in
    record { at = at_next turn; low = next_low turn; below = next_below turn; width = c.width_of_input-width-in-loop-width.ensures }

pub overflow_add-signal : goal.overflow_add-signal
overflow_add-signal c = record { fits = omega (arith, start_below (goal.at.overflow_add-signal c).After-start_cursor-start) }

pub overflow_add-signal-in-loop-width-2 : goal.overflow_add-signal-in-loop-width-2
overflow_add-signal-in-loop-width-2 c = record { fits = omega (arith, next_below (goal.at.overflow_add-signal-in-loop-width-2 c).In-loop-width) }
