use Rattle.std.proofs.Common.{true, false, sym, ◌∙◌, arith}
use Rattle.dg_model.specs.Attributes.{attributes_of}
use Rattle.hw_sched.proofs.Items.{tested, control_one, control_apart}
use Rattle.hw_sched.proofs.BlockDepths.{control_there}
use Rattle.hw_sched.proofs.deepening.control_best.Goals as goal

pub returns-then-is_same_period : goal.returns-then-is_same_period
returns-then-is_same_period c =
    control_one c.args.checked.now.diagram c.args.place c.in-Some.control c.block_at.result.now c.args.depths.now c.block_at.ensures (sym c.control_now.ensures ∙ c.in-Some.is)
    (tested c.period.result c.period-in-Some.result
    ((attributes_of c.args.checked.now.diagram).period_at c.in-Some.control)
    ((attributes_of c.args.checked.now.diagram).period_at c.args.place) c.is_same_period.result true
    c.period.ensures c.period-in-Some.ensures c.is_same_period.ensures c.if-is_same_period.true)

pub returns-else-is_same_period : goal.returns-else-is_same_period
returns-else-is_same_period c =
    control_apart c.args.checked.now.diagram c.args.place c.in-Some.control c.block_at.result.now c.args.depths.now c.block_at.ensures (sym c.control_now.ensures ∙ c.in-Some.is)
    (tested c.period.result c.period-in-Some.result
    ((attributes_of c.args.checked.now.diagram).period_at c.in-Some.control)
    ((attributes_of c.args.checked.now.diagram).period_at c.args.place) c.is_same_period.result false
    c.period.ensures c.period-in-Some.ensures c.is_same_period.ensures c.if-is_same_period.false)

pub period-requires : goal.period-requires
period-requires c = control_there c.args.checked.now.diagram c.args.place c.block_at.result.now c.in-Some.control
    c.keeps_rules.ensures.checked.wired c.block_at.ensures (sym c.control_now.ensures ∙ c.in-Some.is)

pub period-requires-in-Some : goal.period-requires-in-Some
period-requires-in-Some c = c.requires.there

pub bounds-depths-control : goal.bounds-depths-control
bounds-depths-control c =
    let there = control_there c.args.checked.now.diagram c.args.place c.block_at.result.now c.in-Some.control
    c.keeps_rules.ensures.checked.wired c.block_at.ensures (sym c.control_now.ensures ∙ c.in-Some.is) in
    omega (arith, there, c.requires.size)

pub offset_bounds-depths-control : goal.offset_bounds-depths-control
offset_bounds-depths-control c =
    let there = control_there c.args.checked.now.diagram c.args.place c.block_at.result.now c.in-Some.control
    c.keeps_rules.ensures.checked.wired c.block_at.ensures (sym c.control_now.ensures ∙ c.in-Some.is) in
    omega (arith, there, c.requires.size)
