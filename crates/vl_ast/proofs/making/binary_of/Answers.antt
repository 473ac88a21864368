use Rattle.std.proofs.Common.{ap}
use Rattle.vl_ast.specs.declared.expressions.Expr.TheVariants.{Binary}
use Rattle.vl_ast.proofs.making.binary_of.Goals as goal

pub returns : goal.returns
returns c one other left right = ap (λ (pair : _). Binary c.args.op pair.0 pair.1) (c.in_ok-left.ensures one other left right)
