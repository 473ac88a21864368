-- The narrowest type that has two ends.
use Rattle.std.proofs.Common.{◌≡◌, ℕ, ◌+◌, ◌-◌, ◌^◌, ◌<◌, ◌≤◌, max, true, false, ℤ, pos, negsuc, ◌≤ℤ◌, ap, arith, pow_pos, pow_mono, inl, inr, refl, true≢false}
use Rattle.std.proofs.lemmas.Bool.{cases_lt}
use Rattle.std.proofs.lemmas.Int.{ints}
use Rattle.fx_type.specs.declared.kind.FxType.{FxType}
use Rattle.fx_type.specs.declared.kind.FxType.TheVariants.{Num, Logical}
use Rattle.fx_type.specs.FxType.{IsType, IsNumber, width_of, InRange}
use Rattle.fx_type.specs.Span.{IsNarrowest}

-- v has so many bits without leading zeros
pub record IsLength (v bits : ℕ) : Type 0 where
  pub enough : v < 2 ^ bits
  pub least : (k : ℕ) → v < 2 ^ k → bits ≤ k
  pub bound : bits ≤ 127

pub least_length : (v r k : ℕ) → 2 ^ r ≤ v → v < 2 ^ k → r + 1 ≤ k
least_length v r k h l = elim (cases_lt r k) [ inl p ↦ omega arith | inr p ↦ let q : 2 ^ k ≤ 2 ^ r = pow_mono p in absurd (omega arith) ]

module _ (low high frac : ℤ) (h above : ℕ) (at_high : high ≡ pos h) (long : IsLength h above) (least : negsuc 63 ≤ℤ frac) (greatest : frac ≤ℤ pos 128) where
  module _ (l below width : ℕ) (at_low : low ≡ negsuc l) (deep : IsLength l below) (wide : width ≡ max (max above below) 1) where
    signed_narrowest : (other : FxType) → IsType other → IsNumber other → InRange other low → InRange other high → width + 1 ≤ width_of other
    signed_narrowest Logical t n p q = absurd n
    signed_narrowest (Num false w f) t n p q = absurd (omega (arith, ints, p.low))
    signed_narrowest (Num true w f) t n p q =
        let two : 2 ≤ w = t.0.0 in
        let up' : above ≤ w - 1 = long.least (w - 1) (omega (arith, ints, q.high, pow_pos (w - 1))) in
        let down' : below ≤ w - 1 = deep.least (w - 1) (omega (arith, ints, p.low, pow_pos (w - 1))) in
        omega arith

    pub signed_type : IsNarrowest low high frac (Num true (width + 1) frac)
    signed_type =
        let e : 2 ^ (width + 1 - 1) ≡ 2 ^ width = ap (λ (n : ℕ). 2 ^ n) (omega arith) in
        let a : above ≤ width = omega arith in
        let b : below ≤ width = omega arith in
        let p : 2 ^ above ≤ 2 ^ width = pow_mono a in
        let q : 2 ^ below ≤ 2 ^ width = pow_mono b in
        record {
          valid = ((omega arith, omega (arith, long.bound, deep.bound)), least, greatest);
          number = tt;
          frac = refl;
          low = record { low = omega (arith, ints, deep.enough); high = omega (arith, ints) };
          high = record { low = omega (arith, ints, pow_pos width); high = omega (arith, ints, long.enough) };
          narrowest = signed_narrowest;
          sign = ((λ s. absurd (true≢false s)), (λ s. absurd (omega (arith, ints, s))));
        }

  module _ (width : ℕ) (at_low : low ≡ pos 0) (wide : width ≡ max above 1) where
    unsigned_narrowest : (other : FxType) → IsType other → IsNumber other → InRange other low → InRange other high → width ≤ width_of other
    unsigned_narrowest Logical t n p q = absurd n
    unsigned_narrowest (Num false w f) t n p q =
        let one : 1 ≤ w = t.0.0 in
        let up' : above ≤ w = long.least w (omega (arith, ints, q.high, pow_pos w)) in
        omega arith
    unsigned_narrowest (Num true w f) t n p q =
        let two : 2 ≤ w = t.0.0 in
        let up' : above ≤ w - 1 = long.least (w - 1) (omega (arith, ints, q.high, pow_pos (w - 1))) in
        omega arith

    pub unsigned_type : IsNarrowest low high frac (Num false width frac)
    unsigned_type =
        let a : above ≤ width = omega arith in
        let p : 2 ^ above ≤ 2 ^ width = pow_mono a in
        record {
          valid = ((omega arith, omega (arith, long.bound)), least, greatest);
          number = tt;
          frac = refl;
          low = record { low = omega (arith, ints); high = omega (arith, ints) };
          high = record { low = omega (arith, ints); high = omega (arith, ints, long.enough) };
          narrowest = unsigned_narrowest;
          sign = ((λ s. omega (arith, ints)), (λ s. refl));
        }
