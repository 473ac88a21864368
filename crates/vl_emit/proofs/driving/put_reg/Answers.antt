use Rattle.std.proofs.lemmas.Int.{to_z-of_z}
use Rattle.std.specs.Int.{w128}
use Rattle.std.proofs.Common.{◌≡◌, ◌∙◌, ℕ, Some, IfOk, subst}
use Rattle.vl_ast.specs.Gated.{gated_condition}
use Rattle.vl_ast.specs.declared.expressions.Expr.TheVariants.{Name}
use Rattle.vl_emit.specs.Names.{Wire}
use Rattle.vl_emit.specs.inner.NetItems.{constant}
use Rattle.vl_emit.specs.inner.Ready.{circuit_of, slot_in}
use Rattle.vl_emit.proofs.Lists.{net-read}
use Rattle.vl_emit.proofs.driving.put_reg.Goals as goal

pub returns : goal.returns
returns c =
    let source = c.args.source in
    let frame = c.args.frame in
    let net = net-read (circuit_of source).nets _ c.args.own _ c.nets.ensures c.index-nets-own.is c.requires.net.there in
    let same = to_z-of_z w128 c.args.first c.ranges.first in
    let first = c.constant.ensures ∙ (λ i. constant (net i).width (same i)) in
    let name = subst (λ (w : Wire). IfOk c.text_of.result (λ text. text ≡ w.name)) c.operand.ensures.wire c.text_of.ensures in
    let test = subst (λ (slot : ℕ). IfOk c.with_enable.result (λ e. e ≡ gated_condition (Some (slot_in source frame slot)))) c.from.ensures (c.with_enable.ensures _ c.slot_test.ensures) in
    let taken = subst (λ (w : Wire). IfOk c.operand_name.result (λ e. e ≡ Name w.name)) c.operand-2.ensures.wire c.operand_name.ensures in
    c.put_register.ensures _ _ _ _ first name test taken

pub operand-requires : goal.operand-requires
operand-requires c = c.requires.net

pub operand-requires-2 : goal.operand-requires-2
operand-requires-2 c = record { is = c.requires.net.is; there = c.requires.ready.1 }

pub slot_test-requires : goal.slot_test-requires
slot_test-requires c = record { is = c.requires.net.is; timed = c.requires.ready.0 }
