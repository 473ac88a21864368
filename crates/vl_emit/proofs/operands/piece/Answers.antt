use Rattle.std.proofs.Common.{◌≡◌, IfOk, subst, sym}
use Rattle.vl_ast.specs.declared.expressions.Expr.{Expr}
use Rattle.vl_emit.specs.inner.Spoken.{wire_at}
use Rattle.vl_emit.proofs.Pieces.{piece-past, piece-inside, piece-over}
use Rattle.vl_emit.proofs.operands.piece.Goals as goal

pub returns-then-operand-low : goal.returns-then-operand-low
returns-then-operand-low c =
    subst (λ (e : Expr). IfOk c.fill.result (λ made. made ≡ e)) (sym (piece-past (wire_at c.args.operand) c.args.low c.args.width c.if-operand-low.true)) c.fill.ensures

pub returns-then-low-width : goal.returns-then-low-width
returns-then-low-width c =
    subst (λ (e : Expr). IfOk c.inside.result (λ made. made ≡ e)) (sym (piece-inside (wire_at c.args.operand) c.args.low c.args.width c.if-operand-low.false c.if-low-width.true)) c.inside.ensures

pub returns : goal.returns
returns c =
    subst (λ (e : Expr). IfOk c.beside.result (λ made. made ≡ e)) (sym (piece-over (wire_at c.args.operand) c.args.low c.args.width c.if-operand-low.false c.if-low-width.false))
    (c.beside.ensures _ _ c.fill-left.ensures c.inside-right.ensures)
