-- The names that an expression over other names reads.
use Rattle.std.proofs.Common.{◌≡◌, ℕ, List, [], ◌∷◌, ◌++◌, map, flat_map, refl, sym, ap, subst, ◌∙◌}
use Rattle.std.proofs.lemmas.List.{map-append}
use Rattle.vl_ast.specs.declared.expressions.Expr.{Expr}
use Rattle.vl_ast.specs.declared.expressions.Expr.TheOpen.{Expr-F}
use Rattle.vl_ast.specs.declared.expressions.Expr.TheViews.{roll-Expr}
use Rattle.vl_ast.specs.declared.expressions.Expr.TheFolds.{map-Expr, fold-roll-Expr, ind-Expr}
use Rattle.vl_ast.specs.Nets.{names_read, names_step}
use Rattle.vl_ast.proofs.NetsAgree.{relabelled}
use Rattle.vl_inner.specs.Renamed.{Renaming, renamed}
use Rattle.vl_inner.proofs.Meanings.{renamed-rolls}

module _ (rename : Renaming) where
  abbrev Known : Type 0
  Known = (e : Expr) × (names_read (renamed rename e) ≡ map rename (names_read e))

  each : (parts : List Known) → flat_map (λ part. part) (map names_read (map (renamed rename) (map (λ p. p.0) parts)))
      ≡ map rename (flat_map (λ part. part) (map names_read (map (λ p. p.0) parts)))
  each [] = refl
  each (part ∷ parts) =
      let rest = flat_map (λ part. part) (map names_read (map (λ (p : Known). p.0) parts)) in
      (λ i. part.1 i ++ each parts i) ∙ sym (map-append rename (names_read part.0) rest)

  two : (a b : Known) → names_read (renamed rename a.0) ++ names_read (renamed rename b.0) ≡ map rename (names_read a.0 ++ names_read b.0)
  two a b = (λ i. a.1 i ++ b.1 i) ∙ sym (map-append rename (names_read a.0) (names_read b.0))

  step : (y : Expr-F Known)
      → names_step (map-Expr Expr (List (List ℕ)) names_read (relabelled rename (map-Expr Expr Expr (renamed rename) (map-Expr Known Expr (λ p. p.0) y))))
      ≡ map rename (names_step (map-Expr Expr (List (List ℕ)) names_read (map-Expr Known Expr (λ p. p.0) y)))
  step (Expr-F.Name name) = refl
  step (Expr-F.Bit name place) = refl
  step (Expr-F.Part name high low) = refl
  step (Expr-F.Literal number) = refl
  step (Expr-F.Concat parts) = each parts
  step (Expr-F.Repeat count part) = part.1
  step (Expr-F.AsSigned part) = part.1
  step (Expr-F.AsUnsigned part) = part.1
  step (Expr-F.Unary op part) = part.1
  step (Expr-F.Binary op left right) = two left right
  step (Expr-F.Shift op part amount) = part.1
  step (Expr-F.Choose test chosen other) =
      (λ i. test.1 i ++ two chosen other i) ∙ sym (map-append rename (names_read test.0) (names_read chosen.0 ++ names_read other.0))

  layer-reads : (y : Expr-F Known) → names_read (renamed rename (roll-Expr (map-Expr Known Expr (λ p. p.0) y))) ≡ map rename (names_read (roll-Expr (map-Expr Known Expr (λ p. p.0) y)))
  layer-reads y =
      let x : Expr-F Expr = map-Expr Known Expr (λ p. p.0) y in
      ap names_read (renamed-rolls rename x) ∙ fold-roll-Expr (List (List ℕ)) names_step (relabelled rename (map-Expr Expr Expr (renamed rename) x)) ∙ step y
      ∙ ap (map rename) (sym (fold-roll-Expr (List (List ℕ)) names_step x))

  pub reads-renamed : (e : Expr) → names_read (renamed rename e) ≡ map rename (names_read e)
  reads-renamed = ind-Expr (λ e. names_read (renamed rename e) ≡ map rename (names_read e))
      (λ x y shown. subst (λ z. names_read (renamed rename (roll-Expr z)) ≡ map rename (names_read (roll-Expr z))) shown (layer-reads y))
