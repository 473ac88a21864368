-- Shifts down in 64 bits, with a bias before, round as the modes do.
use Rattle.std.proofs.Common.{◌≡◌, ℕ, suc, ◌+◌, ◌-◌, ◌/◌, ◌%◌, ◌^◌, Bool, true, false, true≢false, ℤ, pos, negsuc, neg_ℤ, ◌+ℤ◌, ◌*ℤ◌, bit_and, to_z, of_z, FitsSigned, ap, sym, ◌∙◌, refl, subst, arith}
use Rattle.std.proofs.Common.{lt_of_le_of_lt, cond, int_lt}
use Rattle.std.specs.Int.{w64}
use Rattle.std.specs.Int.Signed.{shr_z, mag_shr}
use Rattle.std.proofs.lemmas.Int.{ints}
use Rattle.std.proofs.lemmas.Nat.{and_mask}
use Rattle.fx_type.specs.declared.rounding.Rounding.{Rounding}
use Rattle.fx_type.specs.declared.rounding.Rounding.TheVariants.{Floor, Ceiling, Zero, Nearest, Round, Convergent}
use Rattle.fx_type.specs.Conversion.{twice, IsEven, RoundsDown, RoundsUp, RoundsTiesUp, RoundsTiesDown, RoundsTiesEven, Rounds}
use Rattle.math_num.proofs.Arithmetic.{next-scaled}
use Rattle.dg_blocks.specs.Narrow.{IsBias, IsTie, IsShifted}
use Rattle.fx_round.proofs.Bias.{shift_floors, floors_one}

pub odd_bit : (v : ℤ) → FitsSigned w64 v → IsTie true v (to_z w64 (bit_and (of_z w64 v) 1))
odd_bit (pos n) f =
    let e : bit_and n 1 ≡ n % 2 = and_mask n 1 in
    record {
      none = λ k. absurd (true≢false k);
      low = omega (arith, ints, e);
      high = omega (arith, ints, e);
      stays = λ _ z. (pos (n / 2), omega (arith, ints, e, z));
      goes = λ _ z. (pos (n / 2 + 1), omega (arith, ints, e, z));
    }
odd_bit (negsuc n) f =
    let e : bit_and (18446744073709551616 - suc n) 1 ≡ (18446744073709551616 - suc n) % 2 = and_mask (18446744073709551616 - suc n) 1 in
    let s = f.sfits in
    record {
      none = λ k. absurd (true≢false k);
      low = omega (arith, ints, e);
      high = omega (arith, ints, e);
      stays = λ _ z. (neg_ℤ (pos (suc n / 2)), omega (arith, ints, e, z, s));
      goes = λ _ z. (neg_ℤ (pos (n / 2)), omega (arith, ints, e, z, s));
    }

pub no_tie : (v : ℤ) → IsTie false v (pos 0)
no_tie v = record { none = λ _. refl; low = omega (arith, ints); high = omega (arith, ints); stays = λ k. absurd (true≢false (sym k)); goes = λ k. absurd (true≢false (sym k)) }

pub shr-fits : (v : ℤ) (m : ℕ) → FitsSigned w64 v → FitsSigned w64 (shr_z v m)
shr-fits v m f = record { sfits = lt_of_le_of_lt (mag_shr v m) f.sfits }

-- ---- the modes

module _ (n bias : ℤ) (even : Bool) (d : ℕ) (r : ℤ) (shifted : IsShifted n bias even d r) where
  pub floor_mode : bias ≡ pos 0 → even ≡ false → RoundsDown n d r
  floor_mode e k =
      let z = shifted.is_tie.none k in
      record { at_most = omega (arith, ints, e, z, shifted.rounds.at_most); next_above = omega (arith, ints, e, z, shifted.rounds.next_above) }

  nearest_mode : twice bias ≡ pos d → even ≡ false → RoundsTiesUp n d r
  nearest_mode e k =
      let z = shifted.is_tie.none k in
      record { above = omega (arith, ints, e, z, shifted.rounds.next_above); at_most = omega (arith, ints, e, z, shifted.rounds.at_most) }

  convergent_mode : twice bias +ℤ pos 2 ≡ pos d → even ≡ true → RoundsTiesEven n d r
  convergent_mode e k = record {
    at_least = omega (arith, ints, e, t.low, s.next_above);
    at_most = omega (arith, ints, e, t.high, s.at_most);
    even_below = λ h.
        let same = floors_one n d shifted.lower r shifted.floors
        (record {
          at_most = omega (arith, ints, e, h, s.at_most, s.next_above);
          next_above =
              omega (arith, ints, e, h, s.at_most, s.next_above);
        }) in
        subst IsEven same (t.stays k (omega (arith, ints, e, h, t.low, t.high, s.next_above)));
    even_above = λ h.
        let q = r +ℤ negsuc 0 in
        let back : q +ℤ pos 1 ≡ r = omega (arith, ints) in
        let scaled : r *ℤ pos d ≡ q *ℤ pos d +ℤ pos d = ap (λ (z : ℤ). z *ℤ pos d) (sym back) ∙ next-scaled q d in
        let same = floors_one n d shifted.lower q shifted.floors
        (record {
          at_most = omega (arith, ints, e, h, scaled, s.at_most, s.next_above);
          next_above =
              omega (arith, ints, e, h, scaled, s.at_most, s.next_above);
        }) in
        subst IsEven (ap (λ (z : ℤ). z +ℤ pos 1) same ∙ back) (t.goes k (omega (arith, ints, e, h, t.low, t.high, s.at_most)));
  }
    where
      t : IsTie even shifted.lower shifted.tie
      t = shifted.is_tie

      s : RoundsDown (n +ℤ bias +ℤ shifted.tie) d r
      s = shifted.rounds

  up_mode : bias +ℤ pos 1 ≡ pos d → even ≡ false → RoundsUp n d r
  up_mode e k =
      let z = shifted.is_tie.none k in
      record { at_least = omega (arith, ints, e, z, shifted.rounds.next_above); previous_below = omega (arith, ints, e, z, shifted.rounds.at_most) }

  ties_down_mode : twice bias +ℤ pos 2 ≡ pos d → even ≡ false → RoundsTiesDown n d r
  ties_down_mode e k =
      let z = shifted.is_tie.none k in
      record { at_least = omega (arith, ints, e, z, shifted.rounds.next_above); below = omega (arith, ints, e, z, shifted.rounds.at_most) }

module _ (n bias below : ℤ) (even : Bool) (d : ℕ) (r : ℤ) where
  pub mode_rounds : (negative : Bool) → int_lt n (pos 0) ≡ negative → IsShifted n (cond negative below bias) even d r → (mode : Rounding) → IsBias mode d bias below even → Rounds mode n d r
  mode_rounds true e s Floor b = floor_mode n below even d r s b.1 b.2
  mode_rounds false e s Floor b = floor_mode n bias even d r s b.0 b.2
  mode_rounds true e s Ceiling b = up_mode n below even d r s b.1 b.2
  mode_rounds false e s Ceiling b = up_mode n bias even d r s b.0 b.2
  mode_rounds true e s Zero b = record { not_negative = λ h. absurd (omega (arith, ints, h, e)); negative = λ _. up_mode n below even d r s b.1 b.2 }
  mode_rounds false e s Zero b = record { not_negative = λ _. floor_mode n bias even d r s b.0 b.2; negative = λ h. absurd (omega (arith, ints, h, e)) }
  mode_rounds true e s Nearest b = nearest_mode n below even d r s b.1 b.2
  mode_rounds false e s Nearest b = nearest_mode n bias even d r s b.0 b.2
  mode_rounds true e s Round b = record { not_negative = λ h. absurd (omega (arith, ints, h, e)); negative = λ _. ties_down_mode n below even d r s b.1 b.2 }
  mode_rounds false e s Round b = record { not_negative = λ _. nearest_mode n bias even d r s b.0 b.2; negative = λ h. absurd (omega (arith, ints, h, e)) }
  mode_rounds true e s Convergent b = convergent_mode n below even d r s b.1 b.2
  mode_rounds false e s Convergent b = convergent_mode n bias even d r s b.0 b.2

-- ---- the code's shift
pub shifted_is : (v bias : ℤ) (even : Bool) (by : ℕ) (tie : ℤ) → IsTie even (shr_z v (2 ^ by)) tie → IsShifted v bias even (2 ^ by) (shr_z (v +ℤ bias +ℤ tie) (2 ^ by))
shifted_is v bias even by tie t = record { lower = shr_z v (2 ^ by); floors = shift_floors v by; tie = tie; is_tie = t; rounds = shift_floors (v +ℤ bias +ℤ tie) by }
