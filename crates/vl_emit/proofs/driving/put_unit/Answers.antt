use Rattle.std.proofs.Common.{◌≡◌, IfOk, subst}
use Rattle.math_num.proofs.Words.{word_width}
use Rattle.vl_ast.specs.declared.expressions.Expr.{Expr}
use Rattle.vl_emit.specs.Names.{Wire}
use Rattle.vl_emit.specs.inner.Operators.{product}
use Rattle.vl_emit.proofs.driving.put_unit.Goals as goal

pub operand-left-requires : goal.operand-left-requires
operand-left-requires c = record { is = c.requires.net.is; there = c.requires.ready.0 }

pub operand-right-requires : goal.operand-right-requires
operand-right-requires c = record { is = c.requires.net.is; there = c.requires.ready.1 }

pub product-value-requires : goal.product-value-requires
product-value-requires c = record {
  left = c.operand-left.ensures.word;
  right = c.operand-right.ensures.word;
  room = word_width c.operand-net.result.width c.operand-net.result.signed c.operand-net.ensures.word;
}

pub returns : goal.returns
returns c =
    let name = subst (λ (w : Wire). IfOk c.text_of.result (λ text. text ≡ w.name)) c.operand-net.ensures.wire c.text_of.ensures in
    let value = subst (λ (v : Expr). IfOk c.product-value.result (λ e. e ≡ v))
    (λ i. product (c.operand-net.ensures.wire i).width (c.operand-left.ensures.wire i) (c.operand-right.ensures.wire i)) c.product-value.ensures in
    c.put_assignment.ensures _ _ name value
