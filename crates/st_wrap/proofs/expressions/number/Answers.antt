use Rattle.std.proofs.Common.{ap}
use Rattle.vl_ast.specs.declared.expressions.Expr.TheVariants.{Literal}
use Rattle.vl_ast.specs.declared.expressions.Sized.{Sized}
use Rattle.st_wrap.proofs.expressions.number.Goals as goal

pub returns : goal.returns
returns c = ap (λ (n : Sized). Literal n) c.plain.ensures
