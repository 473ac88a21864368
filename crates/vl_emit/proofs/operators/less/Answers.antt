use Rattle.std.proofs.Common.{◌≡◌, IfOk, subst}
use Rattle.vl_ast.specs.declared.expressions.BinOp.TheVariants as binary
use Rattle.vl_ast.specs.declared.expressions.Expr.{Expr}
use Rattle.vl_ast.specs.declared.expressions.Expr.TheVariants.{Binary}
use Rattle.vl_emit.specs.inner.Operators.{by_sign, compared, widened}
use Rattle.vl_emit.specs.inner.Pieces.{at_width}
use Rattle.vl_emit.specs.inner.Spoken.{wire_at}
use Rattle.vl_emit.proofs.operators.less.Goals as goal

pub common_width-common-requires-clause-left : goal.common_width-common-requires-clause-left
common_width-common-requires-clause-left c = c.requires.left

pub common_width-common-requires-clause-right : goal.common_width-common-requires-clause-right
common_width-common-requires-clause-right c = c.requires.right

pub comparand-one-requires : goal.comparand-one-requires
comparand-one-requires c = record { word = c.requires.left; room = c.common_width-common.ensures.room }

pub comparand-other-requires : goal.comparand-other-requires
comparand-other-requires c = record { word = c.requires.right; room = c.common_width-common.ensures.room }

pub bit_at_width-requires : goal.bit_at_width-requires
bit_at_width-requires c = c.requires.room.0

pub returns : goal.returns
returns c =
    let one = wire_at c.args.left in
    let other = wire_at c.args.right in
    let width = c.common_width-common.ensures.is in
    subst (λ (e : Expr). IfOk c.bit_at_width.result (λ made. made ≡ widened c.args.width e))
    (λ i. Binary binary.Less (compared (by_sign one other) (at_width (width i) one)) (compared (by_sign one other) (at_width (width i) other)))
    (c.bit_at_width.ensures _ (c.binary.ensures _ _ c.comparand-one.ensures c.comparand-other.ensures))
