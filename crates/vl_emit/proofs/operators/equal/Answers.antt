use Rattle.std.proofs.Common.{◌≡◌, ℕ, IfOk, subst}
use Rattle.vl_ast.specs.declared.expressions.BinOp.TheVariants as binary
use Rattle.vl_emit.specs.inner.Operators.{widened}
use Rattle.vl_emit.specs.inner.Spoken.{both_at}
use Rattle.vl_emit.proofs.operators.equal.Goals as goal

pub common_width-common-requires-clause-left : goal.common_width-common-requires-clause-left
common_width-common-requires-clause-left c = c.requires.left

pub common_width-common-requires-clause-right : goal.common_width-common-requires-clause-right
common_width-common-requires-clause-right c = c.requires.right

pub in_width-requires : goal.in_width-requires
in_width-requires c = record { left = c.requires.left; right = c.requires.right; room = c.common_width-common.ensures.room }

pub bit_at_width-requires : goal.bit_at_width-requires
bit_at_width-requires c = c.requires.room.0

pub returns : goal.returns
returns c =
    subst (λ (n : ℕ). IfOk c.bit_at_width.result (λ made. made ≡ widened c.args.width (both_at binary.Equal n c.args.left c.args.right))) c.common_width-common.ensures.is
    (c.bit_at_width.ensures _ c.in_width.ensures)
