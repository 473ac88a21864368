use Rattle.std.proofs.Common.{◌≡◌, IfOk, Option, subst, sym}
use Rattle.vl_ast.specs.declared.expressions.Expr.{Expr}
use Rattle.vl_inner.specs.Names.{name_by}
use Rattle.vl_inner.specs.Renamed.{renamed_condition}
use Rattle.vl_inner.proofs.renaming.renamed_condition.Goals as goal

pub returns-in-Some : goal.returns-in-Some
returns-in-Some c =
    subst (λ (condition : Option Expr). IfOk c.some_condition.result
    (λ made. made ≡ renamed_condition (name_by c.args.naming) condition)) (sym c.in-Some.is)
    (c.some_condition.ensures _ c.renamed_expr.ensures)
