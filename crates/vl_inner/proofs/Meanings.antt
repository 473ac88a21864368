-- An expression over other names means what it means over its own.
use Rattle.std.proofs.Common.{◌≡◌, ℕ, List, Contains, sym, ◌∙◌}
use Rattle.vl_ast.specs.declared.expressions.Expr.{Expr}
use Rattle.vl_ast.specs.declared.expressions.Expr.TheOpen.{Expr-F}
use Rattle.vl_ast.specs.declared.expressions.Expr.TheVariants.{rolls-Name, rolls-Bit, rolls-Part, rolls-Literal, rolls-Concat, rolls-Repeat, rolls-AsSigned, rolls-AsUnsigned, rolls-Unary}
use Rattle.vl_ast.specs.declared.expressions.Expr.TheVariants.{rolls-Binary, rolls-Shift, rolls-Choose}
use Rattle.vl_ast.specs.declared.expressions.Expr.TheViews.{roll-Expr}
use Rattle.vl_ast.specs.declared.expressions.Expr.TheFolds.{map-Expr, fold-roll-Expr}
use Rattle.vl_ast.specs.Context.{Net}
use Rattle.vl_ast.specs.Nets.{names_read}
use Rattle.vl_ast.specs.Value.{assigned, is_true}
use Rattle.vl_ast.proofs.Layers.{value_by_layer}
use Rattle.vl_ast.proofs.NetsAgree.{assigned-renamed as assigned-by, length-renamed as length-by, relabelled, true-renamed as true-by}
use Rattle.vl_inner.specs.Renamed.{Renaming, renamed, renamed_step}
use Rattle.vl_inner.specs.Laws.{AreDeclaredAlike, MeansTheSame, RenamedMeans}

module _ (rename : Renaming) where
  step-rolls : (y : Expr-F Expr) → renamed_step rename y ≡ roll-Expr (relabelled rename y)
  step-rolls (Expr-F.Name name) = sym (rolls-Name (rename name))
  step-rolls (Expr-F.Bit name place) = sym (rolls-Bit (rename name) place)
  step-rolls (Expr-F.Part name high low) = sym (rolls-Part (rename name) high low)
  step-rolls (Expr-F.Literal number) = sym (rolls-Literal number)
  step-rolls (Expr-F.Concat parts) = sym (rolls-Concat parts)
  step-rolls (Expr-F.Repeat count part) = sym (rolls-Repeat count part)
  step-rolls (Expr-F.AsSigned part) = sym (rolls-AsSigned part)
  step-rolls (Expr-F.AsUnsigned part) = sym (rolls-AsUnsigned part)
  step-rolls (Expr-F.Unary op part) = sym (rolls-Unary op part)
  step-rolls (Expr-F.Binary op left right) = sym (rolls-Binary op left right)
  step-rolls (Expr-F.Shift op part amount) = sym (rolls-Shift op part amount)
  step-rolls (Expr-F.Choose test chosen other) = sym (rolls-Choose test chosen other)

  -- a layer of a renamed expression
  pub renamed-rolls : (x : Expr-F Expr) → renamed rename (roll-Expr x) ≡ roll-Expr (relabelled rename (map-Expr Expr Expr (renamed rename) x))
  renamed-rolls x = fold-roll-Expr Expr (renamed_step rename) x ∙ step-rolls (map-Expr Expr Expr (renamed rename) x)

pub means : RenamedMeans
means rename nets other row e same = record {
  assigned_is = λ width. assigned-by value_by_layer rename (renamed rename) (renamed-rolls rename) nets other row width e same;
  true_is = true-by value_by_layer rename (renamed rename) (renamed-rolls rename) nets other row e same;
  length_is = length-by value_by_layer rename (renamed rename) (renamed-rolls rename) nets other row e same;
}
