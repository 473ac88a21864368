use Rattle.std.proofs.Common.{◌≡◌, false, not, length, None, sym, ap, ◌∙◌, arith}
use Rattle.dg_types.proofs.AccumSteps.{step_fails, step_goes, step_ends}
use Rattle.dg_types.proofs.typed_step.stepped.Goals as goal

pub returns-then-is_none : goal.returns-then-is_none
returns-then-is_none c =
    step_fails c.args.accum c.args.terms.now c.loop-negative.negative-index _ c.loop-negative-test.true
    c.sum_of.result c.sum_of.ensures (c.is_none.ensures ∙ ap not c.if-is_none.true) c.loop-negative.invariant

pub loop-negative-preserved : goal.loop-negative-preserved
loop-negative-preserved c =
    step_goes c.args.accum c.args.terms.now c.loop-negative.negative-index _ c.loop-negative-test.true
    c.sum_of.result c.sum_of.ensures (c.is_none.ensures ∙ ap not c.if-is_none.false) c.loop-negative.invariant

pub returns : goal.returns
returns c = step_ends c.args.accum c.args.terms.now c.loop-negative.negative-index (omega (arith, c.loop-negative-test.false)) c.loop-negative.invariant
