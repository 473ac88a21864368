-- The function of a stored decimal gives what the relation allows.
use Rattle.std.proofs.Common.{◌≡◌, ◌≢◌, ℕ, ◌*◌, ◌^◌, ◌<◌, ◌==◌, unsigned_abs, cond, Bool, true, false, true≢false, ℤ, pos, ◌+ℤ◌, ◌<ℤ◌, ap, sym, ◌∙◌, refl, subst, arith, pow_pos, mul-pos}
use Rattle.std.specs.Prelude.{◌↔◌}
use Rattle.std.specs.Bool.{Decides}
use Rattle.std.specs.Int.{int_gap}
use Rattle.std.proofs.Math.Nat.{one-le-pow}
use Rattle.std.proofs.lemmas.Bool.Decides.{Decides-and, Decides-eqb}
use Rattle.std.proofs.lemmas.Int.{ints, clamps, by_lt_z}
use Rattle.math_num.proofs.Arithmetic.{IsDivided, divided, doubled-scaled, unit_apart}
use Rattle.fx_type.specs.declared.kind.FxType.{FxType}
use Rattle.fx_type.specs.declared.kind.FxType.TheVariants.{Num, Logical}
use Rattle.fx_type.specs.declared.rounding.Rounding.TheVariants.{Nearest}
use Rattle.fx_type.specs.declared.decimal.Decimal.{Decimal}
use Rattle.fx_type.specs.FxType.{lowest_of, highest_of, InRange}
use Rattle.fx_type.specs.Conversion.{twice, signed_digits, RoundsTiesUp, Saturates, IsTruthOf, StoresQuotient}
use Rattle.fx_type.specs.Laws.{NearestIsOne, StoredIsOne}
use Rattle.fx_type.specs.StoredOf.{nearest_of, rounded_of, is_in_range, clamped}
use Rattle.math_list.proofs.Searches.{Decides-int_le}
use Rattle.fx_type.proofs.Ranges.{lowest_sign, highest_sign}

-- ---- rounding to the nearest
nearest_divided : (n : ℤ) (d : ℕ) (r : ℤ) → IsDivided (twice n +ℤ pos d) (2 * d) r → RoundsTiesUp n d r
nearest_divided n d r e = record { above = omega (arith, ints, e.whole, e.below, doubled-scaled r d); at_most = omega (arith, ints, e.whole, doubled-scaled r d) }

pub nearest_rounds : (n : ℤ) (d : ℕ) → 0 < d → RoundsTiesUp n d (nearest_of n d)
nearest_rounds n d h = nearest_divided n d (nearest_of n d) (divided (twice n +ℤ pos d) (2 * d) (omega (arith, h)))

not_below : (n : ℤ) (d : ℕ) (r s : ℤ) → RoundsTiesUp n d r → RoundsTiesUp n d s → r <ℤ s → ⊥
not_below n d r s p q h = omega (arith, ints, p.above, q.at_most, unit_apart r s d h)

pub nearest_only : (n : ℤ) (d : ℕ) (r s : ℤ) → RoundsTiesUp n d r → RoundsTiesUp n d s → r ≡ s
nearest_only n d r s p q = by_lt_z r s (λ h. absurd (not_below n d r s p q h)) (λ k. by_lt_z s r (λ h. absurd (not_below n d s r q p h)) (λ l. omega (arith, ints, k, l)))

pub nearest_one : NearestIsOne
nearest_one n d r h = ((λ p. nearest_only n d (nearest_of n d) r (nearest_rounds n d h) p), (λ e. subst (RoundsTiesUp n d) e (nearest_rounds n d h)))

-- ---- ranges
pub Decides-in_range : (type : FxType) (v : ℤ) → Decides (is_in_range type v) (InRange type v)
Decides-in_range type v =
    let d = Decides-and _ _ (Decides-int_le (lowest_of type) v) (Decides-int_le v (highest_of type)) in
    ((λ e. let h = d.0 e in record { low = h.0; high = h.1 }), (λ i. d.1 (i.low, i.high)))

clamped_saturates : (type : FxType) (v : ℤ) → Saturates type v (clamped type v)
clamped_saturates type v =
    let low = lowest_sign type in
    let high = highest_sign type in
    record {
      inside = λ i. omega (arith, ints, clamps, i.low, i.high);
      below = λ h. omega (arith, ints, clamps, h, low, high);
      above = λ h. omega (arith, ints, clamps, h, low, high);
    }

pub saturates_only : (type : FxType) (r a b : ℤ) → Saturates type r a → Saturates type r b → a ≡ b
saturates_only type r a b p q = by_lt_z r (lowest_of type)
    (λ h. p.below h ∙ sym (q.below h))
    (λ low. by_lt_z (highest_of type) r (λ h. p.above h ∙ sym (q.above h)) (λ high. let i : InRange type r = record { low = low; high = high } in p.inside i ∙ sym (q.inside i)))

-- ---- decimals

-- the unit in which the decimal's number is counted
pub unit_positive : (d : Decimal) (frac : ℤ) → 0 < 10 ^ int_gap d.exponent (pos 0) * 2 ^ int_gap frac (pos 0)
unit_positive d frac = mul-pos (one-le-pow (int_gap d.exponent (pos 0)) 10 (omega arith)) (pow_pos (int_gap frac (pos 0)))

-- the decimal, rounded to the nearest
pub rounded_rounds : (d : Decimal) (frac : ℤ)
    → RoundsTiesUp (signed_digits d.negative (d.digits * 10 ^ int_gap (pos 0) d.exponent * 2 ^ int_gap (pos 0) frac)) (10 ^ int_gap d.exponent (pos 0) * 2 ^ int_gap frac (pos 0)) (rounded_of d frac)
rounded_rounds d frac = nearest_rounds _ _ (unit_positive d frac)

truth_one : (n : ℕ) (r : ℤ) (none : Bool) → (n == 0) ≡ none → IsTruthOf (pos n) r ↔ (cond none (pos 0) (pos 1) ≡ r)
truth_one n r true e =
    let z : pos n ≡ pos 0 = ap pos ((Decides-eqb n 0).0 e) in
    ((λ p. sym (p.zero z)), (λ is. record { zero = λ _. sym is; one = λ other. absurd (other z) }))
truth_one n r false e =
    let some : pos n ≢ pos 0 = λ z. true≢false (sym ((Decides-eqb n 0).1 (ap unsigned_abs z)) ∙ e) in
    ((λ p. sym (p.one some)), (λ is. record { zero = λ z. absurd (some z); one = λ _. sym is }))

-- what rounds to the nearest and saturates is the function's
quotient_one : (n : ℤ) (d : ℕ) (s : Bool) (w : ℕ) (f r : ℤ) → 0 < d → StoresQuotient n d (Num s w f) Nearest true r ↔ (clamped (Num s w f) (nearest_of n d) ≡ r)
quotient_one n d s w f r h = (
  (λ p.
      let same : p.rounded ≡ nearest_of n d = nearest_only n d p.rounded (nearest_of n d) p.rounds (nearest_rounds n d h) in
      saturates_only (Num s w f) (nearest_of n d) _ _ (clamped_saturates (Num s w f) (nearest_of n d)) (subst (λ (z : ℤ). Saturates (Num s w f) z r) same p.settles)),
  (λ e. record { rounded = nearest_of n d; rounds = nearest_rounds n d h; settles = subst (Saturates (Num s w f) (nearest_of n d)) e (clamped_saturates (Num s w f) (nearest_of n d)) }),
)

pub stored_one : StoredIsOne
stored_one d Logical r t = truth_one d.digits r (d.digits == 0) refl
stored_one d (Num s w f) r t = quotient_one _ _ s w f r (unit_positive d f)
