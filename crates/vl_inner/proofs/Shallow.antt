-- An expression over other names nests as deep.
use Rattle.std.proofs.Common.{◌≡◌, ℕ, ◌+◌, ◌≤◌, max, Bool, true, List, [], ◌∷◌, map, Option, None, Some, refl, sym, ap, subst, ◌∙◌}
use Rattle.std.specs.Prelude.{fold, ◌&&◌}
use Rattle.std.specs.List.{list_all}
use Rattle.vl_ast.specs.declared.expressions.Expr.{Expr}
use Rattle.vl_ast.specs.declared.expressions.Expr.TheOpen.{Expr-F}
use Rattle.vl_ast.specs.declared.expressions.Expr.TheViews.{roll-Expr}
use Rattle.vl_ast.specs.declared.expressions.Expr.TheFolds.{map-Expr, fold-roll-Expr, ind-Expr}
use Rattle.vl_ast.specs.declared.modules.ModItem.{ModItem}
use Rattle.vl_ast.specs.declared.modules.ModItem.TheVariants.{Wire, Reg, Assign, Always}
use Rattle.vl_ast.specs.Grammar.{IsCondition, IsExpr, depth, depth_step, is_filled, is_filled_step}
use Rattle.vl_ast.specs.Spellable.{HasExprs}
use Rattle.vl_ast.proofs.NetsAgree.{relabelled}
use Rattle.vl_inner.specs.Renamed.{Renaming, renamed, renamed_condition, renamed_item}
use Rattle.vl_inner.proofs.Meanings.{renamed-rolls}

module _ (rename : Renaming) where
  record Alike (e : Expr) : Type 0 where
    deep : depth (renamed rename e) ≡ depth e
    filled : is_filled (renamed rename e) ≡ is_filled e

  abbrev Known : Type 0
  Known = (e : Expr) × Alike e

  depths : (parts : List Known) → map depth (map (renamed rename) (map (λ p. p.0) parts)) ≡ map depth (map (λ p. p.0) parts)
  depths [] = refl
  depths (part ∷ parts) = (λ i. part.1.deep i ∷ depths parts i)

  fillings : (parts : List Known) → map is_filled (map (renamed rename) (map (λ p. p.0) parts)) ≡ map is_filled (map (λ p. p.0) parts)
  fillings [] = refl
  fillings (part ∷ parts) = (λ i. part.1.filled i ∷ fillings parts i)

  depth-layer : (y : Expr-F Known) → depth_step
      (map-Expr Expr ℕ depth (relabelled rename
      (map-Expr Expr Expr (renamed rename) (map-Expr Known Expr (λ p. p.0) y))))
      ≡ depth_step (map-Expr Expr ℕ depth (map-Expr Known Expr (λ p. p.0) y))
  depth-layer (Expr-F.Name name) = refl
  depth-layer (Expr-F.Bit name place) = refl
  depth-layer (Expr-F.Part name high low) = refl
  depth-layer (Expr-F.Literal number) = refl
  depth-layer (Expr-F.Concat parts) = ap (λ (ns : List ℕ). fold max 0 ns + 1) (depths parts)
  depth-layer (Expr-F.Repeat count part) = ap (λ n. n + 1) part.1.deep
  depth-layer (Expr-F.AsSigned part) = ap (λ n. n + 1) part.1.deep
  depth-layer (Expr-F.AsUnsigned part) = ap (λ n. n + 1) part.1.deep
  depth-layer (Expr-F.Unary op part) = ap (λ n. n + 1) part.1.deep
  depth-layer (Expr-F.Binary op left right) = (λ i. max (left.1.deep i) (right.1.deep i) + 1)
  depth-layer (Expr-F.Shift op part amount) = ap (λ n. n + 1) part.1.deep
  depth-layer (Expr-F.Choose test chosen other) = (λ i. max (test.1.deep i) (max (chosen.1.deep i) (other.1.deep i)) + 1)

  filled-layer : (y : Expr-F Known) → is_filled_step
      (map-Expr Expr Bool is_filled (relabelled rename
      (map-Expr Expr Expr (renamed rename) (map-Expr Known Expr (λ p. p.0) y))))
      ≡ is_filled_step (map-Expr Expr Bool is_filled (map-Expr Known Expr (λ p. p.0) y))
  filled-layer (Expr-F.Name name) = refl
  filled-layer (Expr-F.Bit name place) = refl
  filled-layer (Expr-F.Part name high low) = refl
  filled-layer (Expr-F.Literal number) = refl
  filled-layer (Expr-F.Concat []) = refl
  filled-layer (Expr-F.Concat (part ∷ parts)) = (λ i. part.1.filled i && list_all (λ more. more) (fillings parts i))
  filled-layer (Expr-F.Repeat count part) = part.1.filled
  filled-layer (Expr-F.AsSigned part) = part.1.filled
  filled-layer (Expr-F.AsUnsigned part) = part.1.filled
  filled-layer (Expr-F.Unary op part) = part.1.filled
  filled-layer (Expr-F.Binary op left right) = (λ i. left.1.filled i && right.1.filled i)
  filled-layer (Expr-F.Shift op part amount) = part.1.filled
  filled-layer (Expr-F.Choose test chosen other) = (λ i. test.1.filled i && chosen.1.filled i && other.1.filled i)

  layer-alike : (y : Expr-F Known) → Alike (roll-Expr (map-Expr Known Expr (λ p. p.0) y))
  layer-alike y =
      let x : Expr-F Expr = map-Expr Known Expr (λ p. p.0) y in
      let z : Expr-F Expr = relabelled rename (map-Expr Expr Expr (renamed rename) x) in
      record {
        deep = ap depth (renamed-rolls rename x) ∙ fold-roll-Expr ℕ depth_step z ∙ depth-layer y ∙ sym (fold-roll-Expr ℕ depth_step x);
        filled = ap is_filled (renamed-rolls rename x) ∙ fold-roll-Expr Bool is_filled_step z ∙ filled-layer y ∙ sym (fold-roll-Expr Bool is_filled_step x);
      }

  alike : (e : Expr) → Alike e
  alike = ind-Expr Alike (λ x y shown. subst (λ z. Alike (roll-Expr z)) shown (layer-alike y))

  expr-renamed : (e : Expr) → IsExpr e → IsExpr (renamed rename e)
  expr-renamed e p = let a = alike e in (subst (λ n. n ≤ 256) (sym a.deep) p.0, a.filled ∙ p.1)

  condition-renamed : (condition : Option Expr) → IsCondition condition → IsCondition (renamed_condition rename condition)
  condition-renamed None p = tt
  condition-renamed (Some condition) p = expr-renamed condition p

  pub item-renamed : (i : ModItem) → HasExprs i → HasExprs (renamed_item rename i)
  item-renamed (Wire signed width name) p = tt
  item-renamed (Reg signed width name) p = tt
  item-renamed (Assign name value) p = expr-renamed value p
  item-renamed (Always name first condition value) p = (condition-renamed condition p.0, expr-renamed value p.1)
