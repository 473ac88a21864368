-- The greatest frac of a list of terms.
use Rattle.std.proofs.Common.{◌≡◌, ℕ, ◌+◌, ◌<◌, ◌≤◌, Bool, inl, inr, take, length, get_or, ℤ, pos, negsuc, ◌≤ℤ◌, All, Any, sym, ◌∙◌, subst, arith, take_all, List, [], zero, suc, ◌∷◌}
use Rattle.std.specs.Int.{int_max}
use Rattle.std.proofs.lemmas.Int.{ints}
use Rattle.std.proofs.lemmas.List.{get_or_default}
use Rattle.std.proofs.lemmas.List.Elements.{All-weaker, All-more}
use Rattle.fx_type.proofs.Ranges.{frac_bounds}
use Rattle.math_num.proofs.Integers.{int_max_cases}
use Rattle.fx_type.specs.declared.kind.FxType.{FxType}
use Rattle.fx_type.specs.FxType.{IsType, frac_of}
use Rattle.fx_type.specs.FullType.{Terms, IsGreatestFrac}
use Rattle.std.specs.Prelude.{zip}

module _ (terms : Terms) (i : ℕ) (d : Bool × FxType) (inside : i < length terms) where
  pub bound_more : (old f new : ℤ) → All (λ term. frac_of term.1 ≤ℤ old) (take i terms)
      → f ≡ frac_of (get_or terms i d).1 → old ≤ℤ new → f ≤ℤ new
      → All (λ term. frac_of term.1 ≤ℤ new) (take (i + 1) terms)
  bound_more old f new all e p q =
      All-more (λ term. frac_of term.1 ≤ℤ new) terms i d inside
      (All-weaker (λ (term : Bool × FxType). frac_of term.1 ≤ℤ old) (λ term. frac_of term.1 ≤ℤ new) (λ term h. omega (arith, ints, h, p)) (take i terms) all)
      (omega (arith, ints, e, q))

  pub reached_at : (f : ℤ) → f ≡ frac_of (get_or terms i d).1 → Any (λ term. frac_of term.1 ≡ f) terms
  reached_at f e = (i, get_or terms i d, inside, get_or_default terms i (get_or terms i d) d inside, sym e)

  pub reached_more : (old f new : ℤ) → Any (λ term. frac_of term.1 ≡ old) terms → f ≡ frac_of (get_or terms i d).1 → new ≡ int_max old f → Any (λ term. frac_of term.1 ≡ new) terms
  reached_more old f new any e m = elim (int_max_cases old f) [
    | inl k ↦ subst (λ (z : ℤ). Any (λ term. frac_of term.1 ≡ z) terms) (sym (m ∙ k)) any
    | inr k ↦ reached_at new (m ∙ k ∙ e)
  ]

pub greatest_of_all : (terms : Terms) (i : ℕ) (g : ℤ) → length terms ≤ i → All (λ term. frac_of term.1 ≤ℤ g) (take i terms) → Any (λ term. frac_of term.1 ≡ g) terms → IsGreatestFrac terms g
greatest_of_all terms i g h all any = record {
  bound = subst (λ (xs : Terms). All (λ term. frac_of term.1 ≤ℤ g) xs) (take_all i terms h) all;
  reached = any;
}

-- it is that of a valid type
pub greatest_bounds : (terms : Terms) (frac : ℤ) → All (λ term. IsType term.1) terms → IsGreatestFrac terms frac → (negsuc 63 ≤ℤ frac) × (frac ≤ℤ pos 128)
greatest_bounds terms frac valid greatest =
    let (k, x, inside, at, reached) = greatest.reached in
    let type : IsType x.1 = subst (λ (y : Bool × FxType). IsType y.1) at (valid k x inside) in
    let bounds = frac_bounds x.1 type in
    (omega (arith, ints, bounds.0, reached), omega (arith, ints, bounds.1, reached))

-- the greatest frac bounds each type's
pub bound_at : (frac : ℤ) (signs : List Bool) (types : List FxType)
    → All (λ (term : Bool × FxType). frac_of term.1 ≤ℤ frac) (zip signs types) → length signs ≡ length types
    → (k : ℕ) (d : FxType) → k < length types → frac_of (get_or types k d) ≤ℤ frac
bound_at frac [] [] bound same k d h = absurd (omega arith)
bound_at frac [] (t ∷ types) bound same k d h = absurd (omega arith)
bound_at frac (s ∷ signs) [] bound same k d h = absurd (omega arith)
bound_at frac (s ∷ signs) (t ∷ types) bound same zero d h = bound 0 (s, t) (omega arith)
bound_at frac (s ∷ signs) (t ∷ types) bound same (suc k) d h = bound_at frac signs types (λ k e h. bound (suc k) e (omega arith)) (omega arith) k d (omega arith)
