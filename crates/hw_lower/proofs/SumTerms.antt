-- Sums, term after term, in the word of their full type.
use Rattle.std.proofs.Common.{◌≡◌, ℕ, zero, suc, ◌+◌, ◌^◌, ◌<◌, ◌≤◌, Bool, false, List, [], ◌∷◌, length, get_or, take, ℤ, neg_ℤ, ◌+ℤ◌, ◌-ℤ◌, refl, subst, sym, ap, ◌∙◌, All, pos, negsuc, ◌≤ℤ◌, arith}
use Rattle.std.specs.Prelude.{zip}
use Rattle.std.proofs.lemmas.Int.{ints}
use Rattle.std.proofs.lemmas.List.{take_all}
use Rattle.std.proofs.lemmas.Slice.Zip.{length-zip}
use Rattle.std.proofs.Math.IntN.{+ℤ_idl, +ℤ_assoc}
use Rattle.math_num.specs.Word.{IsCongruent, IsWord, IsWrapped}
use Rattle.math_num.proofs.Arithmetic.{add-scaled, scaled-neg, IsCongruent-refl}
use Rattle.fx_type.specs.declared.kind.FxType.{FxType}
use Rattle.fx_type.specs.FxType.{InRange, is_signed, width_of, frac_of, aligned}
use Rattle.fx_type.specs.FullType.{Terms, negated_if, IsPossibleSum, IsFullSum}
use Rattle.dg_model.specs.Operation.{AreInRange, signed_sum, type_of, value_of}
use Rattle.hw_lower.specs.inner.PlanSteps.{Numbers}
use Rattle.hw_lower.specs.inner.Spread.{OfArguments}
use Rattle.math_num.proofs.Words.{wrapped-is}
use Rattle.fx_type.proofs.Ranges.{frac_bounds, type-word, range-word}
use Rattle.fx_type.proofs.Fracs.{bound_at}

-- The full type.

pub full-fracs : (terms : Terms) (full : FxType) → IsFullSum terms full → (negsuc 63 ≤ℤ frac_of full) × (frac_of full ≤ℤ pos 128)
full-fracs terms full is = frac_bounds full is.valid

pub full-word : (terms : Terms) (full : FxType) → IsFullSum terms full → IsWord (width_of full) (is_signed full)
full-word terms full is = type-word full is.valid

-- no term has more bits behind the point
pub full-above : (signs : List Bool) (types : List FxType) (full : FxType) → length signs ≡ length types → IsFullSum (zip signs types) full → All (λ type. frac_of type ≤ℤ frac_of full) types
full-above signs types full same is k d h = bound_at (frac_of full) signs types is.frac.bound same k d h

-- Congruence.

congruent-sum : (a b c d : ℤ) (m : ℕ) → IsCongruent a b m → IsCongruent c d m → IsCongruent (a +ℤ c) (b +ℤ d) m
congruent-sum a b c d m p q = record { turns = p.turns +ℤ q.turns; equal = omega (arith, ints, p.equal, q.equal, add-scaled p.turns q.turns m) }

congruent-negative : (a b : ℤ) (m : ℕ) → IsCongruent a b m → IsCongruent (neg_ℤ a) (neg_ℤ b) m
congruent-negative a b m p = record { turns = neg_ℤ p.turns; equal = omega (arith, ints, p.equal, scaled-neg p.turns m) }

congruent-then : (a b c : ℤ) (m : ℕ) → IsCongruent a b m → IsCongruent b c m → IsCongruent a c m
congruent-then a b c m p q = record { turns = p.turns +ℤ q.turns; equal = omega (arith, ints, p.equal, q.equal, add-scaled p.turns q.turns m) }

-- what is cut may be cut before
pub wrapped-negative : (v a r : ℤ) (width : ℕ) (signed : Bool) → IsWrapped v width signed a → IsWrapped (neg_ℤ a) width signed r → IsWrapped (neg_ℤ v) width signed r
wrapped-negative v a r width signed p q = record { in_word = q.in_word; congruent = congruent-then r (neg_ℤ a) (neg_ℤ v) (2 ^ width) q.congruent (congruent-negative a v (2 ^ width) p.congruent) }

pub wrapped-difference : (total v a r : ℤ) (width : ℕ) (signed : Bool) → IsWrapped v width signed a → IsWrapped (total -ℤ a) width signed r → IsWrapped (total +ℤ neg_ℤ v) width signed r
wrapped-difference total v a r width signed p q = record {
  in_word = q.in_word;
  congruent = congruent-then r (total -ℤ a) (total +ℤ neg_ℤ v) (2 ^ width) q.congruent
      (congruent-sum total total (neg_ℤ a) (neg_ℤ v) (2 ^ width) (IsCongruent-refl total (2 ^ width))
      (congruent-negative a v (2 ^ width) p.congruent));
}

pub wrapped-sum : (total v a r : ℤ) (width : ℕ) (signed : Bool) → IsWrapped v width signed a → IsWrapped (total +ℤ a) width signed r → IsWrapped (total +ℤ v) width signed r
wrapped-sum total v a r width signed p q = record {
  in_word = q.in_word;
  congruent = congruent-then r (total +ℤ a) (total +ℤ v) (2 ^ width) q.congruent (congruent-sum total total a v (2 ^ width) (IsCongruent-refl total (2 ^ width)) p.congruent);
}

wrapped-total : (total sum v r : ℤ) (width : ℕ) (signed : Bool) → IsWrapped sum width signed total → IsWrapped (total +ℤ v) width signed r → IsWrapped (sum +ℤ v) width signed r
wrapped-total total sum v r width signed p q = record {
  in_word = q.in_word;
  congruent = congruent-then r (total +ℤ v) (sum +ℤ v) (2 ^ width) q.congruent (congruent-sum total sum v v (2 ^ width) p.congruent (IsCongruent-refl v (2 ^ width)));
}

-- Sums.

-- one term
abbrev pub term_of : ℤ → Bool → FxType → ℤ → ℤ
term_of frac negative type v = negated_if negative (aligned frac type v)

-- each input is in the range of its type
abbrev EachInRange : List FxType → List ℤ → Type 0
EachInRange types inputs = (input : ℕ) → input < length types → InRange (type_of types input) (value_of inputs input)

-- the whole sum is possible
possible : (frac : ℤ) (signs : List Bool) (types : List FxType) (inputs : List ℤ) → EachInRange types inputs → length inputs ≡ length types
    → IsPossibleSum frac (zip signs types) (signed_sum frac (zip signs types) inputs)
possible frac [] types inputs range same = refl
possible frac (s ∷ signs) [] inputs range same = refl
possible frac (s ∷ signs) (t ∷ types) [] range same = absurd (omega arith)
possible frac (s ∷ signs) (t ∷ types) (v ∷ inputs) range same = record {
  value = v;
  others = _;
  in_range = range 0 (omega arith);
  is_rest = possible frac signs types inputs (λ k h. range (suc k) (omega arith)) (omega arith);
  is_total = refl;
}

-- one more term
sum-more : (frac : ℤ) (signs : List Bool) (types : List FxType) (inputs : List ℤ) → length signs ≡ length types → length inputs ≡ length types → (k : ℕ) → k < length types
    → signed_sum frac (take (suc k) (zip signs types)) (take (suc k) inputs)
    ≡ signed_sum frac (take k (zip signs types)) (take k inputs) +ℤ term_of frac (get_or signs k false)
    (type_of types k) (value_of inputs k)
sum-more frac [] [] inputs same_signs same k h = absurd (omega arith)
sum-more frac [] (t ∷ types) inputs same_signs same k h = absurd (omega arith)
sum-more frac (s ∷ signs) [] inputs same_signs same k h = absurd (omega arith)
sum-more frac (s ∷ signs) (t ∷ types) [] same_signs same k h = absurd (omega arith)
sum-more frac (s ∷ signs) (t ∷ types) (v ∷ inputs) same_signs same zero h = omega (arith, ints)
sum-more frac (s ∷ signs) (t ∷ types) (v ∷ inputs) same_signs same (suc k) h =
    ap (λ z. term_of frac s t v +ℤ z) (sum-more frac signs types inputs (omega arith) (omega arith) k (omega arith))
    ∙ sym (+ℤ_assoc (term_of frac s t v) (signed_sum frac (take k (zip signs types)) (take k inputs)) (term_of frac (get_or signs k false) (type_of types k) (value_of inputs k)))

-- the first terms, cut to the word
abbrev pub IsTotal : ℤ → List Bool → List FxType → ℕ → Bool → Numbers → ℕ → ℤ → Type 0
IsTotal frac signs types width signed numbers k total = OfArguments types numbers (λ values. IsWrapped (signed_sum frac (take k (zip signs types)) (take k values)) width signed total)

module _ (frac : ℤ) (signs : List Bool) (types : List FxType) (width : ℕ) (signed : Bool) (numbers : Numbers) (same_signs : length signs ≡ length types) where
  pub total-first : (r : ℤ) → 1 ≤ length types → IsWrapped (term_of frac (get_or signs 0 false) (type_of types 0) (numbers 0)) width signed r → IsTotal frac signs types width signed numbers 1 r
  total-first r some is values are =
      let term : term_of frac (get_or signs 0 false) (type_of types 0) (numbers 0) ≡ term_of frac (get_or signs 0 false) (type_of types 0) (value_of values 0) =
      ap (term_of frac (get_or signs 0 false) (type_of types 0)) (are.each 0 some) in
      let more = sum-more frac signs types values same_signs are.in_range.count 0 (omega arith) in
      let whole : term_of frac (get_or signs 0 false) (type_of types 0) (numbers 0) ≡ signed_sum frac (take 1 (zip signs types)) (take 1 values) =
      term ∙ sym (+ℤ_idl (term_of frac (get_or signs 0 false) (type_of types 0) (value_of values 0))) ∙ sym more in
      subst (λ (z : ℤ). IsWrapped z width signed r) whole is

  pub total-more : (k : ℕ) (total r : ℤ) → k < length types → IsTotal frac signs types width signed numbers k total
      → IsWrapped (total +ℤ term_of frac (get_or signs k false) (type_of types k) (numbers k)) width signed r
      → IsTotal frac signs types width signed numbers (k + 1) r
  total-more k total r within before is values are =
      let term : term_of frac (get_or signs k false) (type_of types k) (numbers k) ≡ term_of frac (get_or signs k false) (type_of types k) (value_of values k) =
      ap (term_of frac (get_or signs k false) (type_of types k)) (are.each k within) in
      let own : IsWrapped (total +ℤ term_of frac (get_or signs k false) (type_of types k) (value_of values k)) width signed r =
      subst (λ (z : ℤ). IsWrapped (total +ℤ z) width signed r) term is in
      let whole = wrapped-total total (signed_sum frac (take k (zip signs types)) (take k values))
      (term_of frac (get_or signs k false) (type_of types k) (value_of values k)) r width signed
      (before values are) own in
      let more = sum-more frac signs types values same_signs are.in_range.count k within in
      let next : suc k ≡ k + 1 = omega arith in
      let at : signed_sum frac (take (k + 1) (zip signs types)) (take (k + 1) values) ≡ signed_sum frac (take (suc k) (zip signs types)) (take (suc k) values) =
      ap (λ (n : ℕ). signed_sum frac (take n (zip signs types)) (take n values)) (sym next) in
      subst (λ (z : ℤ). IsWrapped z width signed r) (sym more ∙ sym at) whole

-- the whole sum, cut to the word
pub total-cut : (frac : ℤ) (signs : List Bool) (types : List FxType) (width : ℕ) (signed : Bool) (numbers : Numbers) (k : ℕ) (total : ℤ) → length signs ≡ length types → length types ≤ k
    → IsTotal frac signs types width signed numbers k total → OfArguments types numbers (λ values. IsWrapped (signed_sum frac (zip signs types) values) width signed total)
total-cut frac signs types width signed numbers k total same past is values are =
    let terms : Terms = zip signs types in
    let count : length terms ≤ k = omega (arith, length-zip signs types, same, past) in
    let few : length values ≤ k = omega (arith, are.in_range.count, past) in
    rw (take_all k terms count, take_all k values few) at (is values are)

-- a number of the word of the full type that is the sum but for what is cut is the sum
pub whole-is : (signs : List Bool) (types : List FxType) (full : FxType) (values : List ℤ) (total : ℤ) → length signs ≡ length types → IsFullSum (zip signs types) full → AreInRange types values
    → IsWrapped (signed_sum (frac_of full) (zip signs types) values) (width_of full) (is_signed full) total → total ≡ signed_sum (frac_of full) (zip signs types) values
whole-is signs types full values total same is_full in_range whole =
    let sum : ℤ = signed_sum (frac_of full) (zip signs types) values in
    let range : InRange full sum = is_full.holds sum (possible (frac_of full) signs types values in_range.in_range in_range.count) in
    wrapped-is sum (width_of full) (is_signed full) total (type-word full is_full.valid) (range-word full sum range) whole

-- the same where what is cut is a number that is congruent to the sum
pub congruent-whole : (signs : List Bool) (types : List FxType) (full : FxType) (values : List ℤ) (given total : ℤ) → length signs ≡ length types → IsFullSum (zip signs types) full
    → AreInRange types values
    → IsWrapped given (width_of full) (is_signed full) total → IsCongruent given (signed_sum (frac_of full) (zip signs types) values) (2 ^ width_of full)
    → total ≡ signed_sum (frac_of full) (zip signs types) values
congruent-whole signs types full values given total same is_full in_range cut near =
    whole-is signs types full values total same is_full in_range (record {
      in_word = cut.in_word;
      congruent = congruent-then total given (signed_sum (frac_of full) (zip signs types) values) (2 ^ width_of full) cut.congruent near;
    })

-- two terms, the first of which is never subtracted
pub two-total : (k0 k1 : FxType) (negative : Bool) (full : FxType) (x0 x1 t s : ℤ) → IsFullSum ((false, k0) ∷ (negative, k1) ∷ []) full → InRange k0 x0 → InRange k1 x1
    → IsWrapped (aligned (frac_of full) k0 x0) (width_of full) (is_signed full) t → IsWrapped (t +ℤ negated_if negative (aligned (frac_of full) k1 x1)) (width_of full) (is_signed full) s
    → s ≡ signed_sum (frac_of full) ((false, k0) ∷ (negative, k1) ∷ []) (x0 ∷ x1 ∷ [])
two-total k0 k1 negative full x0 x1 t s is_full r0 r1 p q =
    let sum : ℤ = signed_sum (frac_of full) ((false, k0) ∷ (negative, k1) ∷ []) (x0 ∷ x1 ∷ []) in
    let first : ℤ = aligned (frac_of full) k0 x0 in
    let second : ℤ = term_of (frac_of full) negative k1 x1 in
    let whole = wrapped-total t first second s (width_of full) (is_signed full) p q in
    let same : first +ℤ second ≡ sum = omega (arith, ints) in
    let range : InRange full sum = is_full.holds sum (possible (frac_of full) (false ∷ negative ∷ []) (k0 ∷ k1 ∷ []) (x0 ∷ x1 ∷ []) each refl) in
    wrapped-is sum (width_of full) (is_signed full) s (type-word full is_full.valid) (range-word full sum range) (subst (λ (z : ℤ). IsWrapped z (width_of full) (is_signed full) s) same whole)
  where
    each : (input : ℕ) → input < 2 → InRange (type_of (k0 ∷ k1 ∷ []) input) (value_of (x0 ∷ x1 ∷ []) input)
    each zero inside = r0
    each (suc zero) inside = r1
    each (suc (suc k)) inside = absurd (omega (arith, inside))
