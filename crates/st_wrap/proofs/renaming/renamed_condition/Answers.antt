use Rattle.std.proofs.Common.{◌≡◌, IfOk, Option, subst, sym}
use Rattle.vl_ast.specs.declared.expressions.Expr.{Expr}
use Rattle.st_wrap.specs.inner.CoreNames.{renamed_condition}
use Rattle.st_wrap.proofs.renaming.renamed_condition.Goals as goal

pub returns-in-Some : goal.returns-in-Some
returns-in-Some c =
    subst (λ (condition : Option Expr). IfOk c.some_condition.result (λ made. made ≡ renamed_condition condition)) (sym c.in-Some.is) (c.some_condition.ensures _ c.renamed_expr.ensures)
