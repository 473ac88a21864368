use Rattle.std.proofs.Common.{◌≡◌, ◌-◌, ℕ, IfOk, refl, subst}
use Rattle.vl_ast.specs.declared.expressions.Expr.TheVariants.{Name}
use Rattle.vl_emit.specs.Names.{Wire}
use Rattle.vl_emit.specs.inner.Ready.{slot_in}
use Rattle.vl_emit.proofs.driving.sum_so_far.Goals as goal

pub slot_test-last-requires : goal.slot_test-last-requires
slot_test-last-requires c = c.requires.frame

pub operand-requires : goal.operand-requires
operand-requires c = c.requires.own

pub operand-requires-2 : goal.operand-requires-2
operand-requires-2 c = c.requires.from

pub returns : goal.returns
returns c =
    let last = subst (λ (clocks : ℕ). IfOk c.slot_test-last.result (λ e. e ≡ slot_in c.args.source c.args.frame (clocks - 1))) c.clocks.ensures c.slot_test-last.ensures in
    let held = subst (λ (w : Wire). IfOk c.operand_name-held.result (λ e. e ≡ Name w.name)) c.operand.ensures.wire c.operand_name-held.ensures in
    let more = subst (λ (w : Wire). IfOk c.operand_name-more.result (λ e. e ≡ Name w.name)) c.operand-2.ensures.wire c.operand_name-more.ensures in
    c.choose.ensures _ _ _ last refl (c.binary-sum.ensures _ _ held more)
