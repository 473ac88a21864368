-- A decimal is in range at a frac exactly where its fraction is a number of so many bits; where it is so, it is so at each lesser frac.
use Rattle.std.proofs.Common.{◌≡◌, ℕ, ◌+◌, ◌-◌, ◌*◌, ◌^◌, ◌<◌, ◌≤◌, Bool, true, false, ℤ, pos, negsuc, neg_ℤ, ◌≤ℤ◌, ap, sym, ◌∙◌, refl, subst, arith, pow_pos, pow_mono, mul-le-mul_left, inl, inr}
use Rattle.std.proofs.Common.{true≢false}
use Rattle.std.specs.Prelude.{nat_le, nat_lt}
use Rattle.std.specs.Int.{int_gap}
use Rattle.std.specs.Cmp.Derive.{both_true}
use Rattle.std.proofs.lemmas.Nat.{pow-add}
use Rattle.std.proofs.lemmas.Bool.{cases_lt, leb-true, le-leb, lt-ltb, ltb-true}
use Rattle.std.proofs.lemmas.Int.{ints, by_lt_z}
use Rattle.math_num.specs.Word.{IsWord}
use Rattle.math_num.proofs.Arithmetic.{scaled-mono, scaled-neg, unit_apart, double}
use Rattle.fx_type.specs.declared.kind.FxType.{FxType}
use Rattle.fx_type.specs.declared.kind.FxType.TheVariants.{Num}
use Rattle.fx_type.specs.declared.decimal.Decimal.{Decimal}
use Rattle.fx_type.specs.FxType.{InRange, lowest_of, highest_of}
use Rattle.fx_type.specs.Conversion.{signed_digits, RoundsTiesUp}
use Rattle.fx_type.specs.StoredOf.{rounded_of, is_in_range}
use Rattle.fx_type.proofs.Ranges.{lowest_sign, highest_sign, InRange-zero}
use Rattle.fx_type.proofs.Decimals.{Decides-in_range, rounded_rounds, unit_positive}
use Rattle.dg_model.specs.GainParam.{frac_down}
use Rattle.dg_types.specs.inner.TypeFit.{is_within, bits_of, at_step, HasSign}
use Rattle.math_list.proofs.Tests.{same_test}

-- ---- one quotient and its nearest whole number

module _ (p q c : ℕ) (r : ℤ) (some : 0 < q) where
  up_to : RoundsTiesUp (pos p) q r → r ≤ℤ pos c → 2 * p + q < 2 * (c + 1) * q
  up_to t h = omega (arith, ints, t.above, scaled-mono r (pos c) q h)

  up_from : RoundsTiesUp (pos p) q r → 2 * p + q < 2 * (c + 1) * q → r ≤ℤ pos c
  up_from t h = by_lt_z (pos c) r (λ l. absurd (omega (arith, ints, t.at_most, unit_apart (pos c) r q l))) (λ g. g)

  up_low : RoundsTiesUp (pos p) q r → pos 0 ≤ℤ r
  up_low t = by_lt_z r (pos 0) (λ l. absurd (omega (arith, ints, t.above, unit_apart r (pos 0) q l))) (λ g. g)

  down_to : RoundsTiesUp (neg_ℤ (pos p)) q r → neg_ℤ (pos (c + 1)) ≤ℤ r → 2 * p ≤ 2 * (c + 1) * q + q
  down_to t h = omega (arith, ints, t.at_most, scaled-mono (neg_ℤ (pos (c + 1))) r q h, scaled-neg (pos (c + 1)) q)

  down_from : RoundsTiesUp (neg_ℤ (pos p)) q r → 2 * p ≤ 2 * (c + 1) * q + q → neg_ℤ (pos (c + 1)) ≤ℤ r
  down_from t h = by_lt_z r (neg_ℤ (pos (c + 1))) (λ l. absurd (omega (arith, ints, t.above, unit_apart r (neg_ℤ (pos (c + 1))) q l, scaled-neg (pos (c + 1)) q))) (λ g. g)

  down_high : RoundsTiesUp (neg_ℤ (pos p)) q r → r ≤ℤ pos 0
  down_high t = by_lt_z (pos 0) r (λ l. absurd (omega (arith, ints, t.at_most, unit_apart (pos 0) r q l))) (λ g. g)

-- ---- a word

-- the greatest number of a word, and the power of two above it
pub record HasTop (type : FxType) (bits c : ℕ) : Type 0 where
  pub high : highest_of type ≡ pos c
  pub power : 2 ^ bits ≡ 2 * (c + 1)

top_signed : (w : ℕ) (f : ℤ) → 2 ≤ w → HasTop (Num true w f) w (2 ^ (w - 1) - 1)
top_signed w f some = let p : 0 < 2 ^ (w - 1) = pow_pos (w - 1) in record { high = refl; power = omega (arith, double w (omega arith)) }

top_unsigned : (w : ℕ) (f : ℤ) → HasTop (Num false w f) (w + 1) (2 ^ w - 1)
top_unsigned w f = let p : 0 < 2 ^ w = pow_pos w in record { high = refl; power = omega (arith, pow-add 2 w 1) }

up_range : (type : FxType) (bits c p q : ℕ) (r : ℤ) → 0 < q → HasTop type bits c → RoundsTiesUp (pos p) q r → is_in_range type r ≡ is_within false bits p q
up_range type bits c p q r some top t =
    let d = Decides-in_range type r in
    let e : 2 ^ bits * q ≡ 2 * (c + 1) * q = ap (λ (x : ℕ). x * q) top.power in
    same_test (is_in_range type r) (nat_lt (2 * p + q) (2 ^ bits * q))
    (λ h. lt-ltb (2 * p + q) (2 ^ bits * q) (let i : InRange type r = d.0 h in omega (arith, e, up_to p q c r some t (omega (arith, ints, i.high, top.high)))))
    (λ h. d.1 (record {
      low = omega (arith, ints, lowest_sign type, up_low p q c r some t);
      high = omega (arith, ints, top.high, up_from p q c r some t (omega (arith, e, ltb-true (2 * p + q) (2 ^ bits * q) h)));
    }))

down_range : (w : ℕ) (f : ℤ) (c p q : ℕ) (r : ℤ) → 0 < q → lowest_of (Num true w f) ≡ neg_ℤ (pos (c + 1))
    → 2 ^ w ≡ 2 * (c + 1) → RoundsTiesUp (neg_ℤ (pos p)) q r → is_in_range (Num true w f) r ≡ is_within true w p q
down_range w f c p q r some low power t =
    let type = Num true w f in
    let d = Decides-in_range (Num true w f) r in
    let e : 2 ^ w * q ≡ 2 * (c + 1) * q = ap (λ (x : ℕ). x * q) power in
    same_test (is_in_range (Num true w f) r) (nat_le (2 * p) (2 ^ w * q + q))
    (λ h. le-leb (2 * p) (2 ^ w * q + q) (let i : InRange (Num true w f) r = d.0 h in omega (arith, e, down_to p q c r some t (omega (arith, ints, i.low, low)))))
    (λ h. d.1 (record {
      low = omega (arith, ints, low, down_from p q c r some t (omega (arith, e, leb-true (2 * p) (2 ^ w * q + q) h)));
      high = omega (arith, ints, highest_sign (Num true w f), down_high p q c r some t);
    }))

range_is : (negative signed : Bool) (w : ℕ) (f : ℤ) (p q : ℕ) (r : ℤ) → 0 < q → IsWord w signed → (negative ≡ true → signed ≡ true) → RoundsTiesUp (signed_digits negative p) q r
    → is_in_range (Num signed w f) r ≡ is_within negative (bits_of signed w) p q
range_is false true w f p q r some word sign t = up_range (Num true w f) w (2 ^ (w - 1) - 1) p q r some (top_signed w f word.0) t
range_is false false w f p q r some word sign t = up_range (Num false w f) (w + 1) (2 ^ w - 1) p q r some (top_unsigned w f) t
range_is true true w f p q r some word sign t =
    let top = top_signed w f word.0 in
    let s : 0 < 2 ^ (w - 1) = pow_pos (w - 1) in
    down_range w f (2 ^ (w - 1) - 1) p q r some (let e : 2 ^ (w - 1) ≡ 2 ^ (w - 1) - 1 + 1 = omega arith in ap (λ (x : ℕ). neg_ℤ (pos x)) e) top.power t
range_is true false w f p q r some word sign t = absurd (true≢false (sym (sign refl)))

-- ---- decimals

pub fits_is : (d : Decimal) (signed : Bool) (w : ℕ) (f : ℤ) → IsWord w signed → (d.negative ≡ true → signed ≡ true)
    → is_in_range (Num signed w f) (rounded_of d f)
    ≡ is_within d.negative (bits_of signed w)
    (d.digits * 10 ^ int_gap (pos 0) d.exponent * 2 ^ int_gap (pos 0) f)
    (10 ^ int_gap d.exponent (pos 0) * 2 ^ int_gap f (pos 0))
fits_is d signed w f word sign =
    range_is d.negative signed w f (d.digits * 10 ^ int_gap (pos 0) d.exponent * 2 ^ int_gap (pos 0) f)
    (10 ^ int_gap d.exponent (pos 0) * 2 ^ int_gap f (pos 0)) (rounded_of d f) (unit_positive d f) word sign
    (rounded_rounds d f)

zero_rounds : (negative : Bool) (p q : ℕ) (r : ℤ) → 0 < q → p ≡ 0 → RoundsTiesUp (signed_digits negative p) q r → r ≡ pos 0
zero_rounds false p q r some e t =
    let high : r ≤ℤ pos 0 = by_lt_z (pos 0) r (λ l. absurd (omega (arith, ints, t.at_most, e, unit_apart (pos 0) r q l))) (λ g. g) in
    omega (arith, ints, high, up_low p q 0 r some t)
zero_rounds true p q r some e t =
    let low : pos 0 ≤ℤ r = by_lt_z r (pos 0) (λ l. absurd (omega (arith, ints, t.above, e, unit_apart r (pos 0) q l))) (λ g. g) in
    omega (arith, ints, low, down_high p q 0 r some t)

pub zero_fits : (d : Decimal) (signed : Bool) (w : ℕ) (f : ℤ) → d.digits ≡ 0 → is_in_range (Num signed w f) (rounded_of d f) ≡ true
zero_fits d signed w f none =
    let p : d.digits * 10 ^ int_gap (pos 0) d.exponent * 2 ^ int_gap (pos 0) f ≡ 0 = ap (λ (n : ℕ). n * 10 ^ int_gap (pos 0) d.exponent * 2 ^ int_gap (pos 0) f) none ∙ omega arith in
    let zero_is : rounded_of d f ≡ pos 0 = zero_rounds d.negative _ _ (rounded_of d f) (unit_positive d f) p (rounded_rounds d f) in
    let t : FxType = Num signed w f in
    (Decides-in_range (Num signed w f) (rounded_of d f)).1 (subst (InRange (Num signed w f)) (sym zero_is) (InRange-zero (Num signed w f)))

-- ---- steps

up_gap : (k : ℕ) → int_gap (pos 0) (frac_down k) ≡ 128 - k
up_gap k = elim (cases_lt 128 k) [
  | inl l ↦ (let e : frac_down k ≡ negsuc (k - 129) = omega (arith, ints) in ap (int_gap (pos 0)) e ∙ omega arith)
  | inr g ↦ (let e : frac_down k ≡ pos (128 - k) = omega (arith, ints) in ap (int_gap (pos 0)) e ∙ omega arith)
]

down_gap : (k : ℕ) → int_gap (frac_down k) (pos 0) ≡ k - 128
down_gap k = elim (cases_lt 128 k) [
  | inl l ↦ (let e : frac_down k ≡ negsuc (k - 129) = omega (arith, ints) in ap (λ (z : ℤ). int_gap z (pos 0)) e ∙ omega arith)
  | inr g ↦ (let e : frac_down k ≡ pos (128 - k) = omega (arith, ints) in ap (λ (z : ℤ). int_gap z (pos 0)) e ∙ omega arith)
]

within_mono : (negative : Bool) (bits p q p' q' : ℕ) → p' ≤ p → q ≤ q' → is_within negative bits p q ≡ true → is_within negative bits p' q' ≡ true
within_mono false bits p q p' q' less more h =
    let s : 0 < 2 ^ bits = pow_pos bits in
    let m : (2 ^ bits - 1) * q ≤ (2 ^ bits - 1) * q' = mul-le-mul_left (2 ^ bits - 1) more in
    let e : (2 ^ bits - 1 + 1) * q ≡ 2 ^ bits * q = ap (λ (x : ℕ). x * q) (omega arith) in
    let e' : (2 ^ bits - 1 + 1) * q' ≡ 2 ^ bits * q' = ap (λ (x : ℕ). x * q') (omega arith) in
    lt-ltb (2 * p' + q') (2 ^ bits * q') (omega (arith, ltb-true (2 * p + q) (2 ^ bits * q) h))
within_mono true bits p q p' q' less more h =
    let m : 2 ^ bits * q ≤ 2 ^ bits * q' = mul-le-mul_left (2 ^ bits) more in
    le-leb (2 * p') (2 ^ bits * q' + q') (omega (arith, leb-true (2 * p) (2 ^ bits * q + q) h))

pub some_negative : (d : Decimal) (signed : Bool) → 0 < d.digits → HasSign signed d → d.negative ≡ true → signed ≡ true
some_negative d signed some sign negative = sign (both_true negative (lt-ltb 0 d.digits some))

-- what fits after so many steps down fits after more
pub step_mono : (d : Decimal) (signed : Bool) (w k j : ℕ) → IsWord w signed → HasSign signed d → k ≤ j → at_step d signed w k ≡ true → at_step d signed w j ≡ true
step_mono d signed w k j word sign more h = elim (cases_lt 0 d.digits) [
  | inl some ↦
      let s = some_negative d signed some sign in
      let a : 2 ^ int_gap (pos 0) (frac_down j) ≤ 2 ^ int_gap (pos 0) (frac_down k) =
      (let g : int_gap (pos 0) (frac_down j) ≤ int_gap (pos 0) (frac_down k) =
      omega (arith, up_gap j, up_gap k) in pow_mono g) in
      let b : 2 ^ int_gap (frac_down k) (pos 0) ≤ 2 ^ int_gap (frac_down j) (pos 0) =
      (let g : int_gap (frac_down k) (pos 0) ≤ int_gap (frac_down j) (pos 0) =
      omega (arith, down_gap j, down_gap k) in pow_mono g) in
      fits_is d signed w (frac_down j) word s
      ∙ within_mono d.negative (bits_of signed w) _ _ _ _
      (mul-le-mul_left (d.digits * 10 ^ int_gap (pos 0) d.exponent) a)
      (mul-le-mul_left (10 ^ int_gap d.exponent (pos 0)) b)
      (sym (fits_is d signed w (frac_down k) word s) ∙ h)
  | inr none ↦ zero_fits d signed w (frac_down j) (omega arith)
]
