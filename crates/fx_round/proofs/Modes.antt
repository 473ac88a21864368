-- The whole number that each mode takes, from the split of a number.
use Rattle.std.proofs.Common.{◌≡◌, ℕ, ◌+◌, ◌*◌, ◌<◌, ◌≤◌, Bool, true, false, not, ℤ, pos, negsuc, ◌+ℤ◌, ◌*ℤ◌, ◌≤ℤ◌, ◌<ℤ◌, ap, sym, refl, subst, arith, true≢false, int_div, int_rem, zero, suc, ◌%◌}
use Rattle.std.proofs.Common.{◌/◌, neg_ℤ, of_z, eqb, eqb-true}
use Rattle.std.specs.Int.{w128, from_bool}
use Rattle.std.proofs.lemmas.Int.{ints}
use Rattle.math_num.proofs.Arithmetic.{next-scaled, scaled-mono}
use Rattle.fx_type.specs.declared.rounding.Rounding.{Rounding}
use Rattle.fx_type.specs.declared.rounding.Rounding.TheVariants.{Floor, Ceiling, Zero, Nearest, Round, Convergent}
use Rattle.fx_type.specs.Conversion.{IsEven, RoundsDown, RoundsUp, RoundsTiesUp, RoundsTiesDown, RoundsTiesEven, Rounds}
use Rattle.fx_round.specs.declared.split.Part.{Part}
use Rattle.fx_round.specs.declared.split.Part.TheVariants.{Whole, BelowHalf, Half, AboveHalf}
use Rattle.fx_round.specs.inner.Parts.{IsPart, IsSplit, takes_upper}
use Rattle.std.proofs.lemmas.Bool.{not-false, not-true}

module _ (n : ℤ) (d : ℕ) (floor : ℤ) (rest : ℕ) (whole : n ≡ floor *ℤ pos d +ℤ pos rest) (below : rest < d) where
  negative_number : floor <ℤ pos 0 → n <ℤ pos 0
  negative_number h =
      let k : floor ≤ℤ negsuc 0 = omega (arith, ints, h) in
      omega (arith, ints, whole, scaled-mono floor (negsuc 0) d k)

  other_number : pos 0 ≤ℤ floor → pos 0 ≤ℤ n
  other_number h = omega (arith, ints, whole, scaled-mono (pos 0) floor d h)

  down_low : RoundsDown n d floor
  down_low = record { at_most = omega (arith, ints, whole); next_above = omega (arith, ints, whole) }

  up_low : rest ≡ 0 → RoundsUp n d floor
  up_low h = record { at_least = omega (arith, ints, whole); previous_below = omega (arith, ints, whole) }

  up_high : 0 < rest → RoundsUp n d (floor +ℤ pos 1)
  up_high h = let e = next-scaled floor d in record { at_least = omega (arith, ints, whole, e); previous_below = omega (arith, ints, whole, e) }

  pub ties_up_low : 2 * rest < d → RoundsTiesUp n d floor
  ties_up_low h = record { above = omega (arith, ints, whole); at_most = omega (arith, ints, whole) }

  pub ties_up_high : d ≤ 2 * rest → RoundsTiesUp n d (floor +ℤ pos 1)
  ties_up_high h = let e = next-scaled floor d in record { above = omega (arith, ints, whole, e); at_most = omega (arith, ints, whole, e) }

  ties_down_low : 2 * rest ≤ d → RoundsTiesDown n d floor
  ties_down_low h = record { at_least = omega (arith, ints, whole); below = omega (arith, ints, whole) }

  ties_down_high : d < 2 * rest → RoundsTiesDown n d (floor +ℤ pos 1)
  ties_down_high h = let e = next-scaled floor d in record { at_least = omega (arith, ints, whole, e); below = omega (arith, ints, whole, e) }

  even_low : 2 * rest < d → RoundsTiesEven n d floor
  even_low h = record {
    at_least = omega (arith, ints, whole);
    at_most = omega (arith, ints, whole);
    even_below = λ t. absurd (omega (arith, ints, whole, t));
    even_above = λ t. absurd (omega (arith, ints, whole, t));
  }

  even_high : d < 2 * rest → RoundsTiesEven n d (floor +ℤ pos 1)
  even_high h = let e = next-scaled floor d in record {
    at_least = omega (arith, ints, whole, e);
    at_most = omega (arith, ints, whole, e);
    even_below = λ t. absurd (omega (arith, ints, whole, t, e));
    even_above = λ t. absurd (omega (arith, ints, whole, t, e));
  }

  half_low : 2 * rest ≡ d → IsEven floor → RoundsTiesEven n d floor
  half_low h even = record {
    at_least = omega (arith, ints, whole);
    at_most = omega (arith, ints, whole);
    even_below = λ _. even;
    even_above = λ _. even;
  }

  half_high : 2 * rest ≡ d → IsEven (floor +ℤ pos 1) → RoundsTiesEven n d (floor +ℤ pos 1)
  half_high h even = let e = next-scaled floor d in record {
    at_least = omega (arith, ints, whole, e);
    at_most = omega (arith, ints, whole, e);
    even_below = λ _. even;
    even_above = λ _. even;
  }

-- a whole number is taken by every mode
module _ (n : ℤ) (d : ℕ) (floor : ℤ) (rest : ℕ) (whole : n ≡ floor *ℤ pos d +ℤ pos rest) (below : rest < d) where
  pub whole_rounds : (mode : Rounding) → rest ≡ 0 → Rounds mode n d floor
  whole_rounds Floor e = down_low n d floor rest whole below
  whole_rounds Ceiling e = up_low n d floor rest whole below e
  whole_rounds Zero e = record { not_negative = λ _. down_low n d floor rest whole below; negative = λ _. up_low n d floor rest whole below e }
  whole_rounds Nearest e = ties_up_low n d floor rest whole below (omega arith)
  whole_rounds Round e = record { not_negative = λ _. ties_up_low n d floor rest whole below (omega arith); negative = λ _. ties_down_low n d floor rest whole below (omega arith) }
  whole_rounds Convergent e = even_low n d floor rest whole below (omega arith)

module _ (n : ℤ) (d : ℕ) (floor : ℤ) (rest : ℕ) (whole : n ≡ floor *ℤ pos d +ℤ pos rest) (below : rest < d) (negative odd : Bool)
    (is_negative : negative ≡ true → floor <ℤ pos 0) (not_negative : negative ≡ false → pos 0 ≤ℤ floor)
    (is_odd : odd ≡ true → IsEven (floor +ℤ pos 1)) (is_even : odd ≡ false → IsEven floor) where
  upper : (mode : Rounding) (part : Part) → IsPart d rest part → takes_upper mode part negative odd ≡ true → Rounds mode n d (floor +ℤ pos 1)
  upper Floor Whole i e = absurd (true≢false (sym e))
  upper Floor BelowHalf i e = absurd (true≢false (sym e))
  upper Floor Half i e = absurd (true≢false (sym e))
  upper Floor AboveHalf i e = absurd (true≢false (sym e))
  upper Ceiling Whole i e = absurd (true≢false (sym e))
  upper Ceiling BelowHalf i e = up_high n d floor rest whole below (omega (arith, i))
  upper Ceiling Half i e = up_high n d floor rest whole below (omega (arith, i))
  upper Ceiling AboveHalf i e = up_high n d floor rest whole below (omega (arith, i))
  upper Zero Whole i e = absurd (true≢false (sym e))
  upper Zero BelowHalf i e = record {
    not_negative =
        λ h. absurd (omega (arith, ints, h, negative_number n d floor rest whole below (is_negative e)));
    negative =
        λ _. up_high n d floor rest whole below (omega (arith, i));
  }
  upper Zero Half i e = record {
    not_negative =
        λ h. absurd (omega (arith, ints, h, negative_number n d floor rest whole below (is_negative e)));
    negative =
        λ _. up_high n d floor rest whole below (omega (arith, i));
  }
  upper Zero AboveHalf i e = record {
    not_negative =
        λ h. absurd (omega (arith, ints, h, negative_number n d floor rest whole below (is_negative e)));
    negative =
        λ _. up_high n d floor rest whole below (omega (arith, i));
  }
  upper Nearest Whole i e = absurd (true≢false (sym e))
  upper Nearest BelowHalf i e = absurd (true≢false (sym e))
  upper Nearest Half i e = ties_up_high n d floor rest whole below (omega (arith, i))
  upper Nearest AboveHalf i e = ties_up_high n d floor rest whole below (omega (arith, i))
  upper Round Whole i e = absurd (true≢false (sym e))
  upper Round BelowHalf i e = absurd (true≢false (sym e))
  upper Round Half i e = record {
    not_negative =
        λ _. ties_up_high n d floor rest whole below (omega (arith, i));
    negative =
        λ h. absurd (omega (
          arith,
          ints,
          h,
          other_number n d floor rest whole below (not_negative (not-true negative e)),
        ));
  }
  upper Round AboveHalf i e = record { not_negative = λ _. ties_up_high n d floor rest whole below (omega (arith, i)); negative = λ _. ties_down_high n d floor rest whole below i }
  upper Convergent Whole i e = absurd (true≢false (sym e))
  upper Convergent BelowHalf i e = absurd (true≢false (sym e))
  upper Convergent Half i e = half_high n d floor rest whole below i (is_odd e)
  upper Convergent AboveHalf i e = even_high n d floor rest whole below i

  lower : (mode : Rounding) (part : Part) → IsPart d rest part → takes_upper mode part negative odd ≡ false → Rounds mode n d floor
  lower Floor Whole i e = down_low n d floor rest whole below
  lower Floor BelowHalf i e = down_low n d floor rest whole below
  lower Floor Half i e = down_low n d floor rest whole below
  lower Floor AboveHalf i e = down_low n d floor rest whole below
  lower Ceiling Whole i e = up_low n d floor rest whole below i
  lower Ceiling BelowHalf i e = absurd (true≢false e)
  lower Ceiling Half i e = absurd (true≢false e)
  lower Ceiling AboveHalf i e = absurd (true≢false e)
  lower Zero Whole i e = record { not_negative = λ _. down_low n d floor rest whole below; negative = λ _. up_low n d floor rest whole below i }
  lower Zero BelowHalf i e = record {
    not_negative = λ _. down_low n d floor rest whole below;
    negative =
        λ h. absurd (omega (arith, ints, h, other_number n d floor rest whole below (not_negative e)));
  }
  lower Zero Half i e = record { not_negative = λ _. down_low n d floor rest whole below; negative = λ h. absurd (omega (arith, ints, h, other_number n d floor rest whole below (not_negative e))) }
  lower Zero AboveHalf i e = record {
    not_negative = λ _. down_low n d floor rest whole below;
    negative =
        λ h. absurd (omega (arith, ints, h, other_number n d floor rest whole below (not_negative e)));
  }
  lower Nearest Whole i e = ties_up_low n d floor rest whole below (omega (arith, i))
  lower Nearest BelowHalf i e = ties_up_low n d floor rest whole below (omega (arith, i))
  lower Nearest Half i e = absurd (true≢false e)
  lower Nearest AboveHalf i e = absurd (true≢false e)
  lower Round Whole i e = record { not_negative = λ _. ties_up_low n d floor rest whole below (omega (arith, i)); negative = λ _. ties_down_low n d floor rest whole below (omega (arith, i)) }
  lower Round BelowHalf i e = record { not_negative = λ _. ties_up_low n d floor rest whole below (omega (arith, i)); negative = λ _. ties_down_low n d floor rest whole below (omega (arith, i)) }
  lower Round Half i e = record {
    not_negative =
        λ h. absurd (omega (
          arith,
          ints,
          h,
          negative_number n d floor rest whole below
              (is_negative (not-false negative e)),
        ));
    negative =
        λ _. ties_down_low n d floor rest whole below (omega (arith, i));
  }
  lower Round AboveHalf i e = absurd (true≢false e)
  lower Convergent Whole i e = even_low n d floor rest whole below (omega (arith, i))
  lower Convergent BelowHalf i e = even_low n d floor rest whole below (omega (arith, i))
  lower Convergent Half i e = half_low n d floor rest whole below i (is_even e)
  lower Convergent AboveHalf i e = absurd (true≢false e)

pub even_of : (z : ℤ) → int_rem z (pos 2) ≡ pos 0 → IsEven z
even_of z e = (int_div z (pos 2), omega (arith, ints, e))

pub odd_of : (z : ℤ) → ¬ (int_rem z (pos 2) ≡ pos 0) → IsEven (z +ℤ pos 1)
odd_of (pos n) e =
    let k : ¬ (n % 2 ≡ 0) = λ h. e (ap pos h) in
    (pos (n / 2 + 1), omega (arith, ints, k))
odd_of (negsuc n) e =
    let k : ¬ (suc n % 2 ≡ 0) = λ h. e (ap (λ (m : ℕ). neg_ℤ (pos m)) h) in
    (neg_ℤ (pos (n / 2)), omega (arith, ints, k))

-- the code's test of the last bit
neg_zero : (m : ℕ) → m < 2 → of_z w128 (neg_ℤ (pos m)) ≡ 0 → neg_ℤ (pos m) ≡ pos 0
neg_zero zero h e = refl
neg_zero (suc m) h e = absurd (omega arith)

last_bit : (z : ℤ) → of_z w128 (int_rem z (pos 2)) ≡ 0 → int_rem z (pos 2) ≡ pos 0
last_bit (pos n) e = ap pos e
last_bit (negsuc n) e = neg_zero (suc n % 2) (omega arith) e

pub odd_test : (z : ℤ) → not (eqb (of_z w128 (int_rem z (pos 2))) 0) ≡ true → IsEven (z +ℤ pos 1)
odd_test z h = odd_of z (λ e. true≢false (sym (rw e at h)))

pub even_test : (z : ℤ) → not (eqb (of_z w128 (int_rem z (pos 2))) 0) ≡ false → IsEven z
even_test z h = even_of z (last_bit z (eqb-true _ _ (not-false _ h)))

pub rounds_upper : (n : ℤ) (d : ℕ) (floor : ℤ) (part : Part) (mode : Rounding) → IsSplit n d floor part
    → (negative odd : Bool) → (negative ≡ true → floor <ℤ pos 0) → (negative ≡ false → pos 0 ≤ℤ floor)
    → (odd ≡ true → IsEven (floor +ℤ pos 1)) → (odd ≡ false → IsEven floor)
    → takes_upper mode part negative odd ≡ true → Rounds mode n d (floor +ℤ pos 1)
rounds_upper n d floor part mode s negative odd a b c e u = upper n d floor s.rest s.whole s.below negative odd a b c e mode part s.is_part u

pub rounds_lower : (n : ℤ) (d : ℕ) (floor : ℤ) (part : Part) (mode : Rounding) → IsSplit n d floor part
    → (negative odd : Bool) → (negative ≡ true → floor <ℤ pos 0) → (negative ≡ false → pos 0 ≤ℤ floor)
    → (odd ≡ true → IsEven (floor +ℤ pos 1)) → (odd ≡ false → IsEven floor)
    → takes_upper mode part negative odd ≡ false → Rounds mode n d floor
rounds_lower n d floor part mode s negative odd a b c e u = lower n d floor s.rest s.whole s.below negative odd a b c e mode part s.is_part u

-- the lower one, or the next
pub rounds_next : (n : ℤ) (d : ℕ) (floor : ℤ) (part : Part) (mode : Rounding) → IsSplit n d floor part
    → (negative odd : Bool) → (negative ≡ true → floor <ℤ pos 0) → (negative ≡ false → pos 0 ≤ℤ floor)
    → (odd ≡ true → IsEven (floor +ℤ pos 1)) → (odd ≡ false → IsEven floor) → (next : Bool)
    → next ≡ takes_upper mode part negative odd → Rounds mode n d (floor +ℤ pos (from_bool next))
rounds_next n d floor part mode s negative odd a b c e true u = rounds_upper n d floor part mode s negative odd a b c e (sym u)
rounds_next n d floor part mode s negative odd a b c e false u =
    let same : floor ≡ floor +ℤ pos 0 = omega (arith, ints) in subst (Rounds mode n d) same (rounds_lower n d floor part mode s negative odd a b c e (sym u))

pub flag_small : (next : Bool) → from_bool next ≤ 1
flag_small true = omega arith
flag_small false = omega arith
