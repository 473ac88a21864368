use Rattle.std.proofs.Common.{ap}
use Rattle.vl_ast.specs.declared.expressions.Expr.TheVariants.{Concat}
use Rattle.vl_ast.proofs.making.concat.Goals as goal

pub returns : goal.returns
returns c all has = ap Concat (c.in_ok-finish.ensures all has)
