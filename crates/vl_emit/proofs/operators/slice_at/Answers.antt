use Rattle.std.proofs.Common.{◌≡◌, ◌+◌, ◌-◌, IfOk, subst, sym}
use Rattle.vl_ast.specs.declared.expressions.Expr.{Expr}
use Rattle.vl_emit.specs.inner.Spoken.{wire_at}
use Rattle.vl_emit.proofs.Pieces.{slice-short, slice-long}
use Rattle.vl_emit.proofs.operators.slice_at.Goals as goal

pub returns-then-width-count : goal.returns-then-width-count
returns-then-width-count c =
    subst (λ (e : Expr). IfOk c.piece.result (λ made. made ≡ e))
    (sym (slice-short (wire_at c.args.operand) c.args.low c.args.width
    (c.args.high + 1 - c.args.low) c.if-width-count.true)) c.piece.ensures

pub returns : goal.returns
returns c =
    subst (λ (e : Expr). IfOk c.beside.result (λ made. made ≡ e)) (sym (slice-long (wire_at c.args.operand) c.args.low c.args.width (c.args.high + 1 - c.args.low) c.if-width-count.false))
    (c.beside.ensures _ _ c.zeros.ensures c.piece-kept.ensures)
