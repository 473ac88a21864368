-- An item over its own names is itself.
use Rattle.std.proofs.Common.{◌≡◌, ℕ, List, [], ◌∷◌, map, Option, Some, None, refl, ap, subst, ◌∙◌}
use Rattle.vl_ast.specs.declared.expressions.Expr.{Expr}
use Rattle.vl_ast.specs.declared.expressions.Expr.TheOpen.{Expr-F}
use Rattle.vl_ast.specs.declared.expressions.Expr.TheViews.{roll-Expr}
use Rattle.vl_ast.specs.declared.expressions.Expr.TheFolds.{map-Expr, ind-Expr}
use Rattle.vl_ast.specs.declared.modules.ModItem.{ModItem}
use Rattle.vl_ast.specs.declared.modules.ModItem.TheVariants.{Wire, Reg, Assign, Always}
use Rattle.vl_ast.proofs.NetsAgree.{relabelled}
use Rattle.vl_inner.specs.Renamed.{renamed, renamed_condition, renamed_item}
use Rattle.vl_inner.proofs.Meanings.{renamed-rolls}

abbrev own : List ℕ → List ℕ
own name = name

abbrev Known : Type 0
Known = (e : Expr) × (renamed own e ≡ e)

each : (parts : List Known) → map (renamed own) (map (λ (p : Known). p.0) parts) ≡ map (λ (p : Known). p.0) parts
each [] = refl
each (part ∷ parts) = (λ i. part.1 i ∷ each parts i)

step : (y : Expr-F Known) → relabelled own (map-Expr Expr Expr (renamed own) (map-Expr Known Expr (λ p. p.0) y)) ≡ map-Expr Known Expr (λ p. p.0) y
step (Expr-F.Name name) = refl
step (Expr-F.Bit name place) = refl
step (Expr-F.Part name high low) = refl
step (Expr-F.Literal number) = refl
step (Expr-F.Concat parts) = ap Expr-F.Concat (each parts)
step (Expr-F.Repeat count part) = ap (Expr-F.Repeat count) part.1
step (Expr-F.AsSigned part) = ap Expr-F.AsSigned part.1
step (Expr-F.AsUnsigned part) = ap Expr-F.AsUnsigned part.1
step (Expr-F.Unary op part) = ap (Expr-F.Unary op) part.1
step (Expr-F.Binary op left right) = (λ i. Expr-F.Binary op (left.1 i) (right.1 i))
step (Expr-F.Shift op part amount) = (λ i. Expr-F.Shift op (part.1 i) amount)
step (Expr-F.Choose test chosen other) = (λ i. Expr-F.Choose (test.1 i) (chosen.1 i) (other.1 i))

layer-same : (y : Expr-F Known) → renamed own (roll-Expr (map-Expr Known Expr (λ p. p.0) y)) ≡ roll-Expr (map-Expr Known Expr (λ p. p.0) y)
layer-same y = renamed-rolls own (map-Expr Known Expr (λ p. p.0) y) ∙ ap roll-Expr (step y)

same : (e : Expr) → renamed own e ≡ e
same = ind-Expr (λ e. renamed own e ≡ e) (λ x y shown. subst (λ z. renamed own (roll-Expr z) ≡ roll-Expr z) shown (layer-same y))

condition-same : (condition : Option Expr) → renamed_condition own condition ≡ condition
condition-same None = refl
condition-same (Some e) = ap Some (same e)

pub item-same : (i : ModItem) → renamed_item own i ≡ i
item-same (Wire signed width name) = refl
item-same (Reg signed width name) = refl
item-same (Assign name value) = ap (Assign name) (same value)
item-same (Always name first condition value) = (λ i. Always name first (condition-same condition i) (same value i))
