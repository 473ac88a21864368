use Rattle.std.proofs.Common.{◌≡◌, ◌∙◌, IfOk, subst, ap}
use Rattle.vl_ast.specs.declared.expressions.Expr.TheVariants.{Name}
use Rattle.vl_ast.proofs.Listings.{both}
use Rattle.vl_emit.specs.Names.{Wire}
use Rattle.vl_emit.specs.inner.NetItems.{plain_number}
use Rattle.vl_emit.specs.inner.Ready.{wire_in}
use Rattle.vl_emit.proofs.driving.put_bridge.Goals as goal

pub live_test-test-requires : goal.live_test-test-requires
live_test-test-requires c = record { is = c.requires.net.is; timed = c.requires.ready.0 }

pub operand-requires : goal.operand-requires
operand-requires c = record { is = c.requires.net.is; there = c.requires.ready.1 }

pub returns : goal.returns
returns c =
    let name = subst (λ (w : Wire). IfOk c.text_of.result (λ text. text ≡ w.name)) c.operand-net.ensures.wire c.text_of.ensures in
    let shown = subst (λ (w : Wire). IfOk c.operand_name.result (λ e. e ≡ Name w.name)) c.operand-net.ensures.wire c.operand_name.ensures in
    let passed = subst (λ (w : Wire). IfOk c.operand_name-passed.result (λ e. e ≡ Name w.name)) c.operand.ensures.wire c.operand_name-passed.ensures in
    let value = c.choose-value.ensures _ _ _ c.live_test-test.ensures passed (c.named-held.ensures _ c.numbered.ensures) in
    let first : c.plain.result ≡ plain_number (wire_in c.args.source c.args.own).width 0 = c.plain.ensures ∙ ap (λ (w : Wire). plain_number w.width 0) c.operand-net.ensures.wire in
    both (c.put_assignment.ensures _ _ name value) (c.put_register.ensures _ _ _ _ first c.numbered-2.ensures c.enable.ensures shown)
