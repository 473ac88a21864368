-- An expression over the wrapper's names of the core's means what it means in the core.
use Rattle.std.proofs.Common.{◌≡◌, ℕ, List, Contains, sym, ◌∙◌}
use Rattle.vl_ast.specs.declared.expressions.Expr.{Expr}
use Rattle.vl_ast.specs.declared.expressions.Expr.TheOpen.{Expr-F}
use Rattle.vl_ast.specs.declared.expressions.Expr.TheVariants.{rolls-Name, rolls-Bit, rolls-Part, rolls-Literal, rolls-Concat, rolls-Repeat, rolls-AsSigned, rolls-AsUnsigned, rolls-Unary}
use Rattle.vl_ast.specs.declared.expressions.Expr.TheVariants.{rolls-Binary, rolls-Shift, rolls-Choose}
use Rattle.vl_ast.specs.declared.expressions.Expr.TheViews.{roll-Expr}
use Rattle.vl_ast.specs.declared.expressions.Expr.TheFolds.{map-Expr, fold-roll-Expr}
use Rattle.vl_ast.specs.Context.{Net}
use Rattle.vl_ast.specs.Nets.{names_read}
use Rattle.vl_ast.specs.Value.{assigned, is_true}
use Rattle.vl_ast.proofs.Layers.{value_by_layer}
use Rattle.vl_ast.proofs.NetsAgree.{assigned-renamed as assigned-by, relabelled as relabelled_by, true-renamed as true-by}
use Rattle.st_wrap.specs.inner.Names.{inner_name}
use Rattle.st_wrap.specs.inner.CoreNames.{renamed, renamed_step}

-- a layer with the wrapper's names
abbrev pub relabelled : Expr-F Expr → Expr-F Expr
relabelled = relabelled_by inner_name

step-rolls : (y : Expr-F Expr) → renamed_step y ≡ roll-Expr (relabelled y)
step-rolls (Expr-F.Name name) = sym (rolls-Name (inner_name name))
step-rolls (Expr-F.Bit name place) = sym (rolls-Bit (inner_name name) place)
step-rolls (Expr-F.Part name high low) = sym (rolls-Part (inner_name name) high low)
step-rolls (Expr-F.Literal number) = sym (rolls-Literal number)
step-rolls (Expr-F.Concat parts) = sym (rolls-Concat parts)
step-rolls (Expr-F.Repeat count part) = sym (rolls-Repeat count part)
step-rolls (Expr-F.AsSigned part) = sym (rolls-AsSigned part)
step-rolls (Expr-F.AsUnsigned part) = sym (rolls-AsUnsigned part)
step-rolls (Expr-F.Unary op part) = sym (rolls-Unary op part)
step-rolls (Expr-F.Binary op left right) = sym (rolls-Binary op left right)
step-rolls (Expr-F.Shift op part amount) = sym (rolls-Shift op part amount)
step-rolls (Expr-F.Choose test chosen other) = sym (rolls-Choose test chosen other)

-- a layer of a renamed expression
pub renamed-rolls : (x : Expr-F Expr) → renamed (roll-Expr x) ≡ roll-Expr (relabelled (map-Expr Expr Expr renamed x))
renamed-rolls x = fold-roll-Expr Expr renamed_step x ∙ step-rolls (map-Expr Expr Expr renamed x)

module _ (nets other : List ℕ → Net) (row : List ℕ → ℕ) where
  pub assigned-renamed : (width : ℕ) (e : Expr) → ((name : List ℕ) → Contains (names_read e) name → nets (inner_name name) ≡ other name)
      → assigned nets row width (renamed e) ≡ assigned other (λ name. row (inner_name name)) width e
  assigned-renamed = assigned-by value_by_layer inner_name renamed renamed-rolls nets other row

  pub true-renamed : (e : Expr) → ((name : List ℕ) → Contains (names_read e) name → nets (inner_name name) ≡ other name)
      → is_true nets row (renamed e) ≡ is_true other (λ name. row (inner_name name)) e
  true-renamed = true-by value_by_layer inner_name renamed renamed-rolls nets other row
