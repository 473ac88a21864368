use Rattle.std.proofs.Common.{◌≡◌, Bool, IfOk, refl, subst, sym}
use Rattle.vl_ast.specs.declared.expressions.Expr.TheVariants.{Name}
use Rattle.vl_emit.specs.Names.{Wire}
use Rattle.vl_emit.specs.inner.Operators.{test_of}
use Rattle.vl_emit.specs.inner.Ready.{taken_in}
use Rattle.vl_emit.proofs.driving.next_value.Goals as goal

pub operand-requires : goal.operand-requires
operand-requires c = c.requires.from

pub operand-requires-2 : goal.operand-requires-2
operand-requires-2 c = c.requires.enable

pub test_of-test-requires : goal.test_of-test-requires
test_of-test-requires c = c.operand-2.ensures.word

pub returns-then-not-reset : goal.returns-then-not-reset
returns-then-not-reset c =
    subst (λ (reset : Bool). IfOk c.operand_name-value.result (λ e. e ≡ taken_in c.args.source c.args.enable reset c.args.from c.args.begun)) (sym c.if-not-reset.true)
    (subst (λ (w : Wire). IfOk c.operand_name-value.result (λ e. e ≡ Name w.name)) c.operand.ensures.wire c.operand_name-value.ensures)

pub returns : goal.returns
returns c =
    let value = subst (λ (w : Wire). IfOk c.operand_name-value.result (λ e. e ≡ Name w.name)) c.operand.ensures.wire c.operand_name-value.ensures in
    let test = subst (λ (w : Wire). IfOk c.test_of-test.result (λ e. e ≡ test_of w)) c.operand-2.ensures.wire c.test_of-test.ensures in
    subst (λ (reset : Bool). IfOk c.choose.result (λ e. e ≡ taken_in c.args.source c.args.enable reset c.args.from c.args.begun)) (sym c.if-not-reset.false) (c.choose.ensures _ _ _ test value refl)
