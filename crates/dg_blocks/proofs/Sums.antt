-- Every part of a sum, and every term, is a possible sum, so it fits 128 bits where the full type is valid.
use Rattle.std.proofs.Common.{Any, ◌≡◌, ℕ, zero, suc, ◌<◌, Bool, true, false, List, [], ◌∷◌, length, get_or, take, ℤ, pos, ◌+ℤ◌, ◌≤ℤ◌, All, FitsSigned, refl, subst, sym, ap, ◌∙◌, arith}
use Rattle.std.specs.Prelude.{zip}
use Rattle.std.specs.Int.{w128}
use Rattle.std.proofs.lemmas.Int.{ints}
use Rattle.std.proofs.Math.IntN.{+ℤ_idl, +ℤ_assoc}
use Rattle.fx_type.specs.declared.kind.FxType.{FxType}
use Rattle.fx_type.specs.FxType.{IsType, InRange, frac_of, aligned}
use Rattle.fx_type.specs.FullType.{negated_if, IsPossibleSum, IsFullSum}
use Rattle.dg_model.specs.Operation.{signed_sum, type_of, value_of}
use Rattle.fx_type.proofs.Ranges.{InRange-zero, InRange-fits}
use Rattle.fx_type.proofs.Fracs.{bound_at}

-- one term
abbrev pub term_of : ℤ → Bool → FxType → ℤ → ℤ
term_of frac negative type v = negated_if negative (aligned frac type v)

zero_term : (frac : ℤ) (negative : Bool) (type : FxType) → term_of frac negative type (pos 0) ≡ pos 0
zero_term frac true type = omega (arith, ints)
zero_term frac false type = omega (arith, ints)

plus_zero_term : (frac : ℤ) (negative : Bool) (type : FxType) (z : ℤ) → term_of frac negative type (pos 0) +ℤ z ≡ z
plus_zero_term frac negative type z = ap (λ y. y +ℤ z) (zero_term frac negative type) ∙ +ℤ_idl z

-- each input is in the range of its type
abbrev EachInRange : List FxType → List ℤ → Type 0
EachInRange types inputs = (input : ℕ) → input < length types → InRange (type_of types input) (value_of inputs input)

abbrev AreTypes : List FxType → Type 0
AreTypes types = (k : ℕ) (d : FxType) → k < length types → IsType (get_or types k d)

module _ (frac : ℤ) where
  -- the sum of the first k terms is possible
  pub part_possible : (signs : List Bool) (types : List FxType) (inputs : List ℤ) → AreTypes types → EachInRange types inputs → length inputs ≡ length types → (k : ℕ)
      → IsPossibleSum frac (zip signs types) (signed_sum frac (take k (zip signs types)) (take k inputs))
  part_possible [] types inputs valid range same zero = refl
  part_possible [] types inputs valid range same (suc k) = refl
  part_possible (s ∷ signs) [] inputs valid range same zero = refl
  part_possible (s ∷ signs) [] inputs valid range same (suc k) = refl
  part_possible (s ∷ signs) (t ∷ types) [] valid range same k = absurd (omega arith)
  part_possible (s ∷ signs) (t ∷ types) (v ∷ inputs) valid range same zero = record {
    value = pos 0;
    others = pos 0;
    in_range = InRange-zero t;
    is_rest = part_possible signs types inputs (λ k d h. valid (suc k) d (omega arith)) (λ k h. range (suc k) (omega arith)) (omega arith) zero;
    is_total = sym (ap (λ z. z +ℤ pos 0) (zero_term frac s t));
  }
  part_possible (s ∷ signs) (t ∷ types) (v ∷ inputs) valid range same (suc k) = record {
    value = v;
    others = _;
    in_range = range 0 (omega arith);
    is_rest = part_possible signs types inputs (λ k d h. valid (suc k) d (omega arith)) (λ k h. range (suc k) (omega arith)) (omega arith) k;
    is_total = refl;
  }

  -- each term is possible
  pub term_possible : (signs : List Bool) (types : List FxType) (inputs : List ℤ) → AreTypes types
      → EachInRange types inputs → length signs ≡ length types → length inputs ≡ length types → (k : ℕ)
      → k < length types
      → IsPossibleSum frac (zip signs types) (term_of frac (get_or signs k false) (type_of types k) (value_of inputs k))
  term_possible [] [] inputs valid range same_signs same k h = absurd (omega arith)
  term_possible [] (t ∷ types) inputs valid range same_signs same k h = absurd (omega arith)
  term_possible (s ∷ signs) [] inputs valid range same_signs same k h = absurd (omega arith)
  term_possible (s ∷ signs) (t ∷ types) [] valid range same_signs same k h = absurd (omega arith)
  term_possible (s ∷ signs) (t ∷ types) (v ∷ inputs) valid range same_signs same zero h = record {
    value = v;
    others = pos 0;
    in_range = range 0 (omega arith);
    is_rest = part_possible signs types inputs (λ k d h. valid (suc k) d (omega arith)) (λ k h. range (suc k) (omega arith)) (omega arith) zero;
    is_total = omega (arith, ints);
  }
  term_possible (s ∷ signs) (t ∷ types) (v ∷ inputs) valid range same_signs same (suc k) h = record {
    value = pos 0;
    others = term_of frac (get_or signs k false) (type_of types k) (value_of inputs k);
    in_range = InRange-zero t;
    is_rest = term_possible signs types inputs (λ k d h. valid (suc k) d (omega arith)) (λ k h. range (suc k) (omega arith)) (omega arith) (omega arith) k (omega arith);
    is_total = sym (plus_zero_term frac s t (term_of frac (get_or signs k false) (type_of types k) (value_of inputs k)));
  }

  -- one more term
  pub sum_more : (signs : List Bool) (types : List FxType) (inputs : List ℤ) → length signs ≡ length types → length inputs ≡ length types → (k : ℕ) → k < length types
      → signed_sum frac (take (suc k) (zip signs types)) (take (suc k) inputs)
      ≡ signed_sum frac (take k (zip signs types)) (take k inputs) +ℤ term_of frac (get_or signs k false)
      (type_of types k) (value_of inputs k)
  sum_more [] [] inputs same_signs same k h = absurd (omega arith)
  sum_more [] (t ∷ types) inputs same_signs same k h = absurd (omega arith)
  sum_more (s ∷ signs) [] inputs same_signs same k h = absurd (omega arith)
  sum_more (s ∷ signs) (t ∷ types) [] same_signs same k h = absurd (omega arith)
  sum_more (s ∷ signs) (t ∷ types) (v ∷ inputs) same_signs same zero h = omega (arith, ints)
  sum_more (s ∷ signs) (t ∷ types) (v ∷ inputs) same_signs same (suc k) h =
      ap (λ z. term_of frac s t v +ℤ z) (sum_more signs types inputs (omega arith) (omega arith) k (omega arith))
      ∙ sym (+ℤ_assoc (term_of frac s t v) (signed_sum frac (take k (zip signs types)) (take k inputs)) (term_of frac (get_or signs k false) (type_of types k) (value_of inputs k)))

module _ (frac : ℤ) (signs : List Bool) (types : List FxType) (inputs : List ℤ) (valid : AreTypes types)
    (range : EachInRange types inputs) (same_signs : length signs ≡ length types)
    (same : length inputs ≡ length types) (full : FxType) (is_full : IsFullSum (zip signs types) full)
    (is_frac : frac_of full ≡ frac) where
  possible_fits : (total : ℤ) → IsPossibleSum frac (zip signs types) total → FitsSigned w128 total
  possible_fits total possible = InRange-fits full total is_full.valid (is_full.holds total (subst (λ (f : ℤ). IsPossibleSum f (zip signs types) total) (sym is_frac) possible))

  pub part_fits : (k : ℕ) → FitsSigned w128 (signed_sum frac (take k (zip signs types)) (take k inputs))
  part_fits k = possible_fits _ (part_possible frac signs types inputs valid range same k)

  pub term_fits : (k : ℕ) → k < length types → FitsSigned w128 (term_of frac (get_or signs k false) (type_of types k) (value_of inputs k))
  term_fits k h = possible_fits _ (term_possible frac signs types inputs valid range same_signs same k h)

  pub frac_bound : (k : ℕ) (d : FxType) → k < length types → frac_of (get_or types k d) ≤ℤ frac
  frac_bound k d h = subst (λ (f : ℤ). frac_of (get_or types k d) ≤ℤ f) is_frac (bound_at (frac_of full) signs types is_full.frac.bound same_signs k d h)

-- a bound of the types bounds the terms
terms_bound : (g : ℤ) (signs : List Bool) (types : List FxType) → All (λ type. frac_of type ≤ℤ g) types
    → (k : ℕ) (term : Bool × FxType) → k < length (zip signs types)
    → frac_of (get_or (zip signs types) k term).1 ≤ℤ g
terms_bound g [] types bound k term h = absurd (omega arith)
terms_bound g (s ∷ signs) [] bound k term h = absurd (omega arith)
terms_bound g (s ∷ signs) (t ∷ types) bound zero term h = bound 0 t (omega arith)
terms_bound g (s ∷ signs) (t ∷ types) bound (suc k) term h = terms_bound g signs types (λ k d h. bound (suc k) d (omega arith)) k term (omega arith)

-- the greatest frac of the types is that of the full type
pub full_frac : (g : ℤ) (signs : List Bool) (types : List FxType) (full : FxType) → length signs ≡ length types
    → IsFullSum (zip signs types) full → All (λ type. frac_of type ≤ℤ g) types
    → Any (λ type. frac_of type ≡ g) types → frac_of full ≡ g
full_frac g signs types full same is_full bound (k, type, below, is_type, is_frac) =
    let own = is_full.frac.reached
    in let no_less : frac_of type ≤ℤ frac_of full = rw is_type at (bound_at (frac_of full) signs types is_full.frac.bound same k type below)
    in let no_more : frac_of own.1.1 ≤ℤ g = rw own.3 at (terms_bound g signs types bound own.0 own.1 own.2)
    in omega (arith, ints, no_less, no_more, own.4, is_frac)
