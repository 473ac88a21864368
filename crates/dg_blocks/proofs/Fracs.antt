-- The greatest frac of a list of types.
use Rattle.std.proofs.Common.{◌≡◌, ℕ, ◌+◌, ◌<◌, inl, inr, List, length, get_or, ℤ, ◌≤ℤ◌, Any, below_more, sym, ◌∙◌, subst, ap, arith}
use Rattle.std.specs.Int.{int_max}
use Rattle.std.proofs.lemmas.Int.{ints}
use Rattle.std.proofs.lemmas.List.{get_or_default}
use Rattle.fx_type.specs.declared.kind.FxType.{FxType}
use Rattle.fx_type.specs.FxType.{frac_of}
use Rattle.math_num.proofs.Integers.{int_max_cases}

module _ (types : List FxType) (i : ℕ) (d : FxType) (inside : i < length types) (old f new : ℤ) (is_frac : f ≡ frac_of (get_or types i d)) where
  pub bound_more : ((k : ℕ) (e : FxType) → k < i → frac_of (get_or types k e) ≤ℤ old) → old ≤ℤ new → f ≤ℤ new → (k : ℕ) (e : FxType) → k < i + 1 → frac_of (get_or types k e) ≤ℤ new
  bound_more bound p q k e below =
      below_more (λ (k : ℕ). (e : FxType) → frac_of (get_or types k e) ≤ℤ new) i
      (λ k h e. let b = bound k e h in omega (arith, ints, b, p))
      (λ e. let same = get_or_default types i e d inside in subst (λ (z : ℤ). z ≤ℤ new) (is_frac ∙ ap frac_of (sym same)) q)
      k below e

  pub reached_more : Any (λ type. frac_of type ≡ old) types → new ≡ int_max old f → Any (λ type. frac_of type ≡ new) types
  reached_more any m = elim (int_max_cases old f) [
    | inl k ↦ subst (λ (z : ℤ). Any (λ type. frac_of type ≡ z) types) (sym (m ∙ k)) any
    | inr k ↦ (i, get_or types i d, inside, get_or_default types i (get_or types i d) d inside, sym (m ∙ k ∙ is_frac))
  ]
