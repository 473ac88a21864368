use Rattle.std.proofs.Common.{ap}
use Rattle.vl_ast.specs.declared.expressions.Expr.TheVariants.{Unary}
use Rattle.vl_ast.proofs.making.unary.Goals as goal

pub returns : goal.returns
returns c is part = ap (Unary c.args.op) (c.in_ok-in_box.ensures is part)
