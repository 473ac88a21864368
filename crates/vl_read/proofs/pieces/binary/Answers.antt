use Rattle.std.proofs.Common.{◌≡◌, IfOk, refl, subst, sym}
use Rattle.vl_ast.specs.declared.expressions.Expr.{Expr}
use Rattle.vl_ast.specs.declared.expressions.Expr.TheVariants.{rolls-Binary}
use Rattle.vl_read.proofs.pieces.binary.Goals as goal

pub returns : goal.returns
returns c = subst (λ (is : Expr). IfOk c.binary_of.result (λ e. e ≡ is)) (sym (rolls-Binary c.args.op c.args.left c.args.right)) (c.binary_of.ensures c.args.left c.args.right refl c.new.ensures)
