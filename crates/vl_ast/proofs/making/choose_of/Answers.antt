use Rattle.std.proofs.Common.{ap}
use Rattle.vl_ast.specs.declared.expressions.Expr.TheVariants.{Choose}
use Rattle.vl_ast.proofs.making.choose_of.Goals as goal

pub returns : goal.returns
returns c first second third test chosen other =
    ap (λ (parts : _). Choose parts.0.0 parts.0.1 parts.1) (c.in_ok-test.ensures (first, second) third (c.both.ensures first second test chosen) other)
