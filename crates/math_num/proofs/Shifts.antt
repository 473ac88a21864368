-- Shifts in words of a computer: up, modulo the word, and down, to the whole number below.
use Rattle.std.proofs.Common.{◌≡◌, ℕ, suc, ◌+◌, ◌-◌, ◌*◌, ◌/◌, ◌%◌, ◌^◌, ◌<◌, ◌≤◌, true, false, ℤ, pos, negsuc, neg_ℤ, ◌+ℤ◌, ◌*ℤ◌, ◌≤ℤ◌, ◌<ℤ◌, FitsSigned, of_z, to_z, inl, inr, ap, sym, ◌∙◌, subst}
use Rattle.std.proofs.Common.{arith, pow_pos, mod-lt, lt_of_le_of_lt, div-add-mod', mul-le-mul_right}
use Rattle.std.specs.Int.{Width}
use Rattle.std.specs.Int.Signed.{shr_z, mag_shr}
use mir.Val.{bits, hbits}
use mir.ValLaws.{pow-bits}
use Rattle.std.proofs.lemmas.Bool.{cases_lt}
use Rattle.std.proofs.lemmas.Int.{ints, by_lt_z, to_z_pos}
use Rattle.std.proofs.lemmas.Nat.{pow-add, mod-mul-add}
use Rattle.std.proofs.Math.Facts.{to_z-neg, sfits_to_z}
use Rattle.std.proofs.Math.Nat.{mul-div_cancel}
use Rattle.math_num.specs.Word.{IsCongruent, IsWrapped}
use Rattle.math_num.proofs.Arithmetic.{IsDivided, divided, unit_apart, scaled-mono, scaled-neg, add-scaled, mul-scaled, near_congruent, double, IsCongruent-trans, IsCongruent-times, IsCongruent-part}

-- ---- down

-- a shift down gives the whole number below
pub shr-divided : (v : ℤ) (by : ℕ) → IsDivided v (2 ^ by) (shr_z v (2 ^ by))
shr-divided (pos n) by = divided (pos n) (2 ^ by) (pow_pos by)
shr-divided (negsuc n) by = divided (negsuc n) (2 ^ by) (pow_pos by)

-- that is one number
pub divided_only : (n : ℤ) (d : ℕ) (a b : ℤ) → IsDivided n d a → IsDivided n d b → a ≡ b
divided_only n d a b p q = by_lt_z a b (λ h. absurd (not_below a b p q h)) (λ k. by_lt_z b a (λ h. absurd (not_below b a q p h)) (λ l. omega (arith, ints, k, l)))
  where
    not_below : (a b : ℤ) → IsDivided n d a → IsDivided n d b → a <ℤ b → ⊥
    not_below a b p q h = omega (arith, ints, unit_apart a b d h, p.whole, p.below, q.whole)

pub shr_exact : (v : ℤ) (by : ℕ) → shr_z (v *ℤ pos (2 ^ by)) (2 ^ by) ≡ v
shr_exact v by = divided_only (v *ℤ pos (2 ^ by)) (2 ^ by) _ v (shr-divided (v *ℤ pos (2 ^ by)) by) (record { rest = 0; whole = omega (arith, ints); below = pow_pos by })

pub shr-fits : (w : Width) (v : ℤ) (m : ℕ) → FitsSigned w v → FitsSigned w (shr_z v m)
shr-fits w v m f = record { sfits = lt_of_le_of_lt (mag_shr v m) f.sfits }

-- ---- bits as numbers of either sign
fits_range : (w : Width) (z : ℤ) → FitsSigned w z → (neg_ℤ (pos (2 ^ hbits w)) ≤ℤ z) × (z <ℤ pos (2 ^ hbits w))
fits_range w (pos n) f = (omega (arith, ints), omega (arith, ints, f.sfits))
fits_range w (negsuc n) f = (omega (arith, ints, f.sfits), omega (arith, ints))

read_range : (w : Width) (n : ℕ) → n < 2 ^ bits w → (neg_ℤ (pos (2 ^ hbits w)) ≤ℤ to_z w n) × (to_z w n <ℤ pos (2 ^ hbits w))
read_range w n h = fits_range w (to_z w n) (sfits_to_z {w = w} {n = n} (record { fits = h }))

pub read_congruent : (w : Width) (n : ℕ) → n < 2 ^ bits w → IsCongruent (to_z w n) (pos n) (2 ^ bits w)
read_congruent w n h = elim (cases_lt n (2 ^ hbits w)) [
  | inl l ↦ record { turns = pos 0; equal = to_z_pos w n l ∙ omega (arith, ints) }
  | inr g ↦ (let k = 2 ^ bits w - suc n in
      let less : k < 2 ^ hbits w = omega (arith, pow-bits w, h, g) in
      let b : n ≡ 2 ^ bits w - suc k = omega (arith, h) in
      record { turns = negsuc 0; equal = ap (to_z w) b ∙ to_z-neg w k less ∙ omega (arith, ints, h) })
]

pub bits_congruent : (w : Width) (v : ℤ) → FitsSigned w v → IsCongruent (pos (of_z w v)) v (2 ^ bits w)
bits_congruent w (pos n) f = record { turns = pos 0; equal = omega (arith, ints) }
bits_congruent w (negsuc n) f = record { turns = pos 1; equal = omega (arith, ints, f.sfits, pow-bits w) }

pub remainder_congruent : (a m : ℕ) → IsCongruent (pos (a % m)) (pos a) m
remainder_congruent a m = record { turns = neg_ℤ (pos (a / m)); equal = omega (arith, ints, scaled-neg (pos (a / m)) m, div-add-mod' a m) }

-- ---- up
pub shl_fits : (w : Width) (n : ℕ) → FitsSigned w (to_z w (n % 2 ^ bits w))
shl_fits w n = sfits_to_z {w = w} {n = n % 2 ^ bits w} (record { fits = mod-lt n (pow_pos (bits w)) })

module _ (w : Width) (v : ℤ) (by : ℕ) (fits : FitsSigned w v) where
  pub shl_congruent : IsCongruent (to_z w ((of_z w v * 2 ^ by) % 2 ^ bits w)) (v *ℤ pos (2 ^ by)) (2 ^ bits w)
  shl_congruent =
      let m = 2 ^ bits w in
      let a = of_z w v * 2 ^ by in
      IsCongruent-trans m (read_congruent w (a % m) (mod-lt a (pow_pos (bits w))))
      (IsCongruent-trans m (remainder_congruent a m) (IsCongruent-times m (2 ^ by) (bits_congruent w v fits)))

  shl_range : (neg_ℤ (pos (2 ^ hbits w)) ≤ℤ to_z w ((of_z w v * 2 ^ by) % 2 ^ bits w)) × (to_z w ((of_z w v * 2 ^ by) % 2 ^ bits w) <ℤ pos (2 ^ hbits w))
  shl_range = read_range w ((of_z w v * 2 ^ by) % 2 ^ bits w) (mod-lt (of_z w v * 2 ^ by) (pow_pos (bits w)))

  -- where the product fits, the shift gives it
  pub shl_exact : FitsSigned w (v *ℤ pos (2 ^ by)) → to_z w ((of_z w v * 2 ^ by) % 2 ^ bits w) ≡ v *ℤ pos (2 ^ by)
  shl_exact room =
      let r = fits_range w (v *ℤ pos (2 ^ by)) room in
      near_congruent _ _ (2 ^ bits w) shl_congruent (omega (arith, ints, pow-bits w, r.0, shl_range.1)) (omega (arith, ints, pow-bits w, r.1, shl_range.0))

  -- where it can be shifted back, it gave the product
  pub shl_back : 2 ^ by ≤ 2 ^ bits w → shr_z (to_z w ((of_z w v * 2 ^ by) % 2 ^ bits w)) (2 ^ by) ≡ v → to_z w ((of_z w v * 2 ^ by) % 2 ^ bits w) ≡ v *ℤ pos (2 ^ by)
  shl_back small e =
      let x = to_z w ((of_z w v * 2 ^ by) % 2 ^ bits w) in
      let d : IsDivided x (2 ^ by) v = subst (IsDivided x (2 ^ by)) e (shr-divided x by) in
      near_congruent _ _ (2 ^ bits w) shl_congruent (omega (arith, ints, small, d.whole, d.below)) (omega (arith, ints, d.whole, pow_pos (bits w)))

  -- ---- up and down again: the number of the lower bits
  module _ (width : ℕ) (some : 1 ≤ width) (all : by + width ≡ bits w) where
    turn : 2 ^ bits w ≡ 2 ^ by * 2 ^ width
    turn = ap (λ (n : ℕ). 2 ^ n) (sym all) ∙ pow-add 2 by width

    half_turn : 2 ^ hbits w ≡ 2 ^ by * 2 ^ (width - 1)
    half_turn =
        let e : 2 ^ by * 2 ^ width ≡ 2 ^ by * (2 * 2 ^ (width - 1)) = ap (λ (n : ℕ). 2 ^ by * n) (double width some) in
        omega (arith, pow-bits w, turn, e)

    pub wrapped_signed : IsWrapped v width true (shr_z (to_z w ((of_z w v * 2 ^ by) % 2 ^ bits w)) (2 ^ by))
    wrapped_signed =
        let x = to_z w ((of_z w v * 2 ^ by) % 2 ^ bits w) in
        let r = shr_z x (2 ^ by) in
        let d = shr-divided x by in
        let c = shl_congruent in
        let r_is = divided_only x (2 ^ by) r (v +ℤ c.turns *ℤ pos (2 ^ width)) d (record {
          rest = 0;
          whole =
              let e : (c.turns *ℤ pos (2 ^ width)) *ℤ pos (2 ^ by) ≡ c.turns *ℤ pos (2 ^ bits w) = mul-scaled c.turns (2 ^ width) (2 ^ by) ∙ ap (λ (n : ℕ). c.turns *ℤ pos n) (omega (arith, turn)) in
              omega (arith, ints, c.equal, e, add-scaled v (c.turns *ℤ pos (2 ^ width)) (2 ^ by));
          below = pow_pos by;
        }) in
        let low : neg_ℤ (pos (2 ^ (width - 1))) ≤ℤ r = by_lt_z r (neg_ℤ (pos (2 ^ (width - 1))))
        (λ h. absurd (omega (arith, ints, unit_apart r (neg_ℤ (pos (2 ^ (width - 1)))) (2 ^ by) h, scaled-neg (pos (2 ^ (width - 1))) (2 ^ by), d.whole, d.below, half_turn, shl_range.0)))
        (λ h. h) in
        let high : r <ℤ pos (2 ^ (width - 1)) = by_lt_z r (pos (2 ^ (width - 1))) (λ h. h)
        (λ h. absurd (omega (arith, ints, scaled-mono (pos (2 ^ (width - 1))) r (2 ^ by) h, d.whole, half_turn, shl_range.1))) in
        record {
          in_word = record { low = low; high = omega (arith, ints, high, pow_pos (width - 1)) };
          congruent = record { turns = c.turns; equal = r_is };
        }

    pub wrapped_unsigned : IsWrapped v width false (pos ((of_z w v * 2 ^ by) % 2 ^ bits w / 2 ^ by))
    wrapped_unsigned =
        let u = of_z w v in
        let n = (u * 2 ^ by) % 2 ^ bits w in
        let e : n ≡ (u % 2 ^ width) * 2 ^ by = scaled_rest u in
        let q : n / 2 ^ by ≡ u % 2 ^ width = ap (λ (k : ℕ). k / 2 ^ by) e ∙ times_over (u % 2 ^ width) in
        let below : u % 2 ^ width < 2 ^ width = mod-lt u (pow_pos width) in
        let c : IsCongruent (pos (u % 2 ^ width)) v (2 ^ width) =
        IsCongruent-trans (2 ^ width) (remainder_congruent u (2 ^ width)) (IsCongruent-part (2 ^ by) (2 ^ width) (subst (IsCongruent (pos u) v) turn (bits_congruent w v fits))) in
        subst (λ (k : ℕ). IsWrapped v width false (pos k)) (sym q)
        (record { in_word = record { low = omega (arith, ints); high = omega (arith, ints, below) }; congruent = c })
      where
        scaled_rest : (u : ℕ) → (u * 2 ^ by) % 2 ^ bits w ≡ (u % 2 ^ width) * 2 ^ by
        scaled_rest u =
            let m = 2 ^ width in
            let d = 2 ^ by in
            let parts : u * d ≡ u / m * (d * m) + u % m * d = omega (arith, ap (λ (k : ℕ). k * d) (div-add-mod' u m)) in
            let less : suc (u % m) * d ≤ m * d = mul-le-mul_right d (mod-lt u (pow_pos width)) in
            let small : u % m * d < d * m = omega (arith, less, pow_pos by) in
            ap (λ (k : ℕ). (u * d) % k) turn ∙ ap (λ (k : ℕ). k % (d * m)) parts ∙ mod-mul-add (u / m) (d * m) (u % m * d) small

        times_over : (k : ℕ) → k * 2 ^ by / 2 ^ by ≡ k
        times_over k = mul-div_cancel k (pow_pos by)
