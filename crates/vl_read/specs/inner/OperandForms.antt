-- An operand with what stands around it.
use Rattle.std.specs.Prelude.{if◌then◌else◌}
use Rattle.vl_ast.specs.declared.expressions.Expr.{Expr}
use Rattle.vl_ast.specs.declared.expressions.Expr.TheOpen.{Expr-F}
use Rattle.vl_ast.specs.declared.expressions.Expr.TheViews.{roll-Expr}
use Rattle.vl_read.specs.declared.pieces.Wrap.{Wrap}
use Rattle.vl_read.specs.declared.pieces.Wrap.TheVariants.{Repeat, Cast, Unary, Shift}

abbrev pub wrapped_in : Wrap → Expr → Expr
wrapped_in (Repeat count) part = roll-Expr (Expr-F.Repeat count part)
wrapped_in (Cast signed) part =
    if signed then roll-Expr (Expr-F.AsSigned part) else roll-Expr (Expr-F.AsUnsigned part)
wrapped_in (Unary op) part = roll-Expr (Expr-F.Unary op part)
wrapped_in (Shift op amount) part = roll-Expr (Expr-F.Shift op part amount)
