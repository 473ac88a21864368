use Rattle.std.proofs.Common.{◌∙◌, Bool, ap, sym}
use Rattle.vl_ast.specs.declared.expressions.Expr.{Expr}
use Rattle.vl_ast.specs.declared.expressions.Expr.TheVariants.{AsSigned}
use Rattle.vl_emit.specs.inner.Operators.{compared}
use Rattle.vl_emit.specs.inner.Pieces.{at_width}
use Rattle.vl_emit.specs.inner.Spoken.{wire_at}
use Rattle.vl_emit.proofs.operators.comparand.Goals as goal

pub returns : goal.returns
returns c =
    ap (λ (e : Expr). AsSigned e) (c.in_ok-in_box.ensures _ c.at_width-part.ensures)
    ∙ ap (λ (b : Bool). compared b (at_width c.args.width (wire_at c.args.operand))) (sym c.if-not-signed.false)
