-- The terms of a sum, and every part of it, have at most 61 bits and a sign where its full type has at most 61 bits.
use Rattle.std.proofs.Common.{◌≡◌, ℕ, suc, ◌^◌, ◌<◌, ◌≤◌, Bool, true, false, List, length, get_or, take, ℤ, ◌+ℤ◌, FitsSigned, ap, sym, ◌∙◌, subst, arith, pow_mono}
use Rattle.std.specs.Prelude.{zip}
use Rattle.std.specs.Int.{w64}
use Rattle.std.proofs.lemmas.Int.{ints}
use Rattle.std.proofs.lemmas.List.{take_all}
use Rattle.std.proofs.lemmas.Slice.Zip.{length-zip}
use Rattle.fx_type.specs.declared.kind.FxType.{FxType}
use Rattle.fx_type.specs.FxType.{aligned}
use Rattle.fx_type.specs.FullType.{negated_if, IsPossibleSum}
use Rattle.dg_model.specs.Operation.{signed_sum, type_of, value_of}
use Rattle.dg_blocks.specs.Narrow.{IsSmall, IsWithin, magnitude_of}
use Rattle.dg_blocks.specs.Prepared.{IsSummable}
use Rattle.dg_blocks.proofs.Sums.{term_of, part_possible, term_possible, sum_more}
use Rattle.dg_blocks.proofs.NarrowWords.{range_within, whole_fits, short_magnitude}

-- a number is as large as its negative
without_sign : (negative : Bool) (z : ℤ) → IsSmall (negated_if negative z) → IsSmall z
without_sign true z s = record { low = omega (arith, ints, s.high); high = omega (arith, ints, s.low) }
without_sign false z s = s

small_of : (bits : ℕ) (z : ℤ) → bits ≤ 61 → IsWithin bits z → IsSmall z
small_of bits z h w = let p : 2 ^ bits ≤ 2 ^ 61 = pow_mono h in record { low = omega (arith, ints, p, w.low); high = omega (arith, ints, p, w.high) }

module _ (frac : ℤ) (signs : List Bool) (types : List FxType) (inputs : List ℤ) (sum : IsSummable frac signs types inputs) where
  possible_within : (total : ℤ) → IsPossibleSum frac (zip signs types) total → IsWithin (magnitude_of sum.full) total
  possible_within total possible =
      range_within sum.full total sum.is_full.valid (sum.is_full.holds total (subst (λ (f : ℤ). IsPossibleSum f (zip signs types) total) (sym sum.frac_is) possible))

  pub inside : (k : ℕ) → k < length inputs → k < length types
  inside k h = omega (arith, h, sum.values.count)

  pub value_fits : (k : ℕ) → k < length inputs → FitsSigned w64 (value_of inputs k)
  value_fits k h =
      let below = inside k h in
      whole_fits (magnitude_of (type_of types k)) (value_of inputs k)
      (short_magnitude (type_of types k) (sum.short k _ below).width)
      (range_within (type_of types k) (value_of inputs k) (sum.types_valid k _ below)
      (sum.values.in_range k below))

  pub aligned_small : (k : ℕ) → k < length inputs → IsSmall (aligned frac (type_of types k) (value_of inputs k))
  aligned_small k h =
      let possible = term_possible frac signs types inputs sum.types_valid sum.values.in_range sum.signs_length sum.values.count k (inside k h) in
      let term = term_of frac (get_or signs k false) (type_of types k) (value_of inputs k) in
      without_sign (get_or signs k false) (aligned frac (type_of types k) (value_of inputs k)) (small_of (magnitude_of sum.full) term sum.bits (possible_within term possible))

  pub sum_step : (k : ℕ) → k < length inputs
      → signed_sum frac (take k (zip signs types)) (take k inputs) +ℤ term_of frac (get_or signs k false)
      (type_of types k) (value_of inputs k)
      ≡ signed_sum frac (take (suc k) (zip signs types)) (take (suc k) inputs)
  sum_step k h = sym (sum_more frac signs types inputs sum.signs_length sum.values.count k (inside k h))

  part_within : (k : ℕ) → IsWithin (magnitude_of sum.full) (signed_sum frac (take k (zip signs types)) (take k inputs))
  part_within k = possible_within (signed_sum frac (take k (zip signs types)) (take k inputs)) (part_possible frac signs types inputs sum.types_valid sum.values.in_range sum.values.count k)

  pub part_fits : (k : ℕ) → FitsSigned w64 (signed_sum frac (take k (zip signs types)) (take k inputs))
  part_fits k = whole_fits (magnitude_of sum.full) (signed_sum frac (take k (zip signs types)) (take k inputs)) sum.bits (part_within k)

  -- all inputs
  pub all_of : (k : ℕ) → length inputs ≤ k → signed_sum frac (take k (zip signs types)) (take k inputs) ≡ signed_sum frac (zip signs types) inputs
  all_of k h =
      let count : length (zip signs types) ≤ k = omega (arith, length-zip signs types, sum.signs_length, sum.values.count, h) in
      ap (λ (terms : List (Bool × FxType)). signed_sum frac terms (take k inputs))
      (take_all k (zip signs types) count)
      ∙ ap (λ (values : List ℤ). signed_sum frac (zip signs types) values) (take_all k inputs h)

  pub whole_within : IsWithin (magnitude_of sum.full) (signed_sum frac (zip signs types) inputs)
  whole_within = subst (IsWithin (magnitude_of sum.full)) (all_of (length inputs) (omega arith)) (part_within (length inputs))
