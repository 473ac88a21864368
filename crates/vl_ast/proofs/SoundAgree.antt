-- An expression whose names are exchanged for others is as sound where the same is declared of the names that it reads.
use Rattle.std.proofs.Common.{◌≡◌, ℕ, nat_le, nat_lt, Bool, ◌&&◌, List, [], ◌∷◌, ◌++◌, map, Contains, flat_map, refl, sym, ap, subst, ◌∙◌}
use Rattle.std.specs.List.{list_all}
use Rattle.vl_ast.specs.declared.expressions.Expr.{Expr}
use Rattle.vl_ast.specs.declared.expressions.Expr.TheOpen.{Expr-F}
use Rattle.vl_ast.specs.declared.expressions.Expr.TheViews.{roll-Expr}
use Rattle.vl_ast.specs.declared.expressions.Expr.TheFolds.{map-Expr, para-Expr, para-roll-Expr, fold-roll-Expr, ind-Expr}
use Rattle.vl_ast.specs.Conditions.{is_narrow, is_number, is_sound, is_sound_step}
use Rattle.vl_ast.specs.Context.{Net}
use Rattle.vl_ast.specs.Nets.{names_read, names_step}
use Rattle.vl_ast.proofs.Agree.{ByLayer}
use Rattle.vl_ast.proofs.NetsAgree.{Renames, Same, left-same, length-renamed, only, own-renames, relabelled, right-same}

module _ (by_layer : ByLayer) (rename : List ℕ → List ℕ) (renamed : Expr → Expr) (renames : Renames rename renamed) (nets other : List ℕ → Net) where
  abbrev with_sound : (List ℕ → Net) → Expr → Expr × Bool
  with_sound nets e = (e, para-Expr Bool (is_sound_step nets) e)

  abbrev Agrees : Expr → Type 0
  Agrees e = Same rename nets other (names_read e) → para-Expr Bool (is_sound_step nets) (renamed e) ≡ para-Expr Bool (is_sound_step other) e

  abbrev Known : Type 0
  Known = (e : Expr) × Agrees e

  narrow : (p : Known) → Same rename nets other (names_read p.0) → is_narrow nets (with_sound nets (renamed p.0)) ≡ is_narrow other (with_sound other p.0)
  narrow p s = let long = length-renamed by_layer rename renamed renames nets other (λ n. 0) p.0 (λ n c. s.at n c) in let e = p.1 s in (λ i. e i && nat_le (long i) 128)

  each : (parts : List Known) → Same rename nets other (flat_map (λ part. part) (map names_read (map (λ p. p.0) parts)))
      → list_all (is_narrow nets) (map (with_sound nets) (map renamed (map (λ p. p.0) parts))) ≡ list_all (is_narrow other) (map (with_sound other) (map (λ p. p.0) parts))
  each [] s = refl
  each (part ∷ parts) s =
      let names = names_read part.0 in
      let rest = flat_map (λ part. part) (map names_read (map (λ (p : Known). p.0) parts)) in
      let first = narrow part (left-same rename nets other names rest s) in
      let others = each parts (right-same rename nets other names rest s) in
      (λ i. first i && others i)

  step : (y : Expr-F Known) → Same rename nets other (names_step (map-Expr Expr (List (List ℕ)) names_read (map-Expr Known Expr (λ p. p.0) y)))
      → is_sound_step nets (map-Expr Expr (Expr × Bool) (with_sound nets) (relabelled rename (map-Expr Expr Expr renamed (map-Expr Known Expr (λ p. p.0) y))))
      ≡ is_sound_step other (map-Expr Expr (Expr × Bool) (with_sound other) (map-Expr Known Expr (λ p. p.0) y))
  step (Expr-F.Name name) s = refl
  step (Expr-F.Bit name place) s = ap (λ (n : Net). nat_lt 1 n.width && nat_lt place n.width) (only rename nets other name s)
  step (Expr-F.Part name high low) s = ap (λ (n : Net). nat_lt 1 n.width && nat_le low high && nat_lt high n.width) (only rename nets other name s)
  step (Expr-F.Literal number) s = refl
  step (Expr-F.Concat parts) s = each parts s
  step (Expr-F.Repeat count part) s = ap (λ t. nat_lt 0 count && t) (narrow part s)
  step (Expr-F.AsSigned part) s = narrow part s
  step (Expr-F.AsUnsigned part) s = narrow part s
  step (Expr-F.Unary op part) s = narrow part s
  step (Expr-F.Binary op left right) s =
      let a = narrow left (left-same rename nets other (names_read left.0) (names_read right.0) s) in
      let b = narrow right (right-same rename nets other (names_read left.0) (names_read right.0) s) in
      (λ i. a i && b i)
  step (Expr-F.Shift op part amount) s = ap (λ t. t && is_number amount) (narrow part s)
  step (Expr-F.Choose test chosen otherwise) s =
      let names = names_read chosen.0 ++ names_read otherwise.0 in
      let a = narrow test (left-same rename nets other (names_read test.0) names s) in
      let rest = right-same rename nets other (names_read test.0) names s in
      let b = narrow chosen (left-same rename nets other (names_read chosen.0) (names_read otherwise.0) rest) in
      let c = narrow otherwise (right-same rename nets other (names_read chosen.0) (names_read otherwise.0) rest) in
      (λ i. a i && b i && c i)

  layer-agrees : (y : Expr-F Known) → Agrees (roll-Expr (map-Expr Known Expr (λ p. p.0) y))
  layer-agrees y s =
      let x : Expr-F Expr = map-Expr Known Expr (λ p. p.0) y in
      let z : Expr-F Expr = relabelled rename (map-Expr Expr Expr renamed x) in
      let names = fold-roll-Expr (List (List ℕ)) names_step x in
      ap (para-Expr Bool (is_sound_step nets)) (renames x)
      ∙ para-roll-Expr Bool (is_sound_step nets) z
      ∙ step y (subst (λ (names : List (List ℕ)). Same rename nets other names) names s)
      ∙ sym (para-roll-Expr Bool (is_sound_step other) x)

  agrees : (e : Expr) → Agrees e
  agrees = ind-Expr Agrees (λ x y shown. subst (λ z. Agrees (roll-Expr z)) shown (layer-agrees y))

  pub sound-renamed : (e : Expr) → ((name : List ℕ) → Contains (names_read e) name → nets (rename name) ≡ other name) → is_sound nets (renamed e) ≡ is_sound other e
  sound-renamed e same = narrow (e, agrees e) (record { at = same })

pub sound-same : (by_layer : ByLayer) (nets other : List ℕ → Net) (e : Expr) → ((name : List ℕ) → Contains (names_read e) name → nets name ≡ other name) → is_sound nets e ≡ is_sound other e
sound-same by_layer = sound-renamed by_layer (λ name. name) (λ e. e) own-renames
