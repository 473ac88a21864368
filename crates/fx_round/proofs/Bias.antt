-- Each mode is the whole number below, with a bias added before.
use Rattle.std.proofs.Common.{◌≡◌, ℕ, suc, ◌+◌, ◌-◌, ◌*◌, ◌/◌, ◌%◌, ◌^◌, ◌<◌, ◌≤◌, Bool, true, false, ℤ, pos, negsuc, neg_ℤ, ◌+ℤ◌, ◌-ℤ◌, ◌*ℤ◌, ◌≤ℤ◌, ◌<ℤ◌, bit_and, to_z, of_z, FitsSigned, cond}
use Rattle.std.proofs.Common.{int_lt, ap, sym, ◌∙◌, refl, subst, mod-lt, arith, pow_mono, pow_pos}
use Rattle.std.specs.Int.{w64, int_max, int_min}
use Rattle.std.specs.Int.Signed.{shr_z}
use Rattle.std.proofs.lemmas.Int.{ints, clamps, by_lt_z}
use Rattle.std.proofs.lemmas.Nat.{and_mask, pow-add}
use Rattle.math_num.specs.Word.{IsWord, InWord, IsCongruent, IsWrapped, word_lowest, word_highest}
use Rattle.math_num.proofs.Arithmetic.{next-scaled, mul-scaled, scaled-mono, scaled-neg, unit_apart, IsCongruent-trans, IsCongruent-part}
use Rattle.math_num.proofs.Shifts.{shr-divided, shl_exact, bits_congruent, remainder_congruent}
use Rattle.fx_type.specs.declared.kind.FxType.TheVariants.{Num}
use Rattle.fx_type.specs.Conversion.{Saturates, twice, IsEven, BySign, RoundsDown, RoundsUp, RoundsTiesUp, RoundsTiesDown, RoundsTiesEven}
use Rattle.fx_type.proofs.Ranges.{lowest_sign, highest_sign}
use Rattle.fx_round.specs.inner.Narrow.{IsTie, least_beside}

-- the least number of a word, by the greatest
pub least_is : (width : ℕ) (signed : Bool) → IsWord width signed → least_beside signed (word_highest width signed) ≡ word_lowest width signed
least_is width true word = omega (arith, ints, pow_pos (width - 1))
least_is width false word = refl

-- between the ends of its word a number is what the type stores
pub clamped : (width : ℕ) (signed : Bool) (frac r low high result : ℤ) → IsWord width signed
    → high ≡ word_highest width signed → low ≡ least_beside signed high → result ≡ int_max low (int_min r high)
    → Saturates (Num signed width frac) r result
clamped width signed frac r low high result word at_high at_low is =
    let least : low ≡ word_lowest width signed = at_low ∙ ap (least_beside signed) at_high ∙ least_is width signed word in
    let under : word_lowest width signed ≤ℤ pos 0 = lowest_sign (Num signed width frac) in
    let over : pos 0 ≤ℤ word_highest width signed = highest_sign (Num signed width frac) in
    record {
      inside = λ range.
          let from : word_lowest width signed ≤ℤ r = range.low in
          let to : r ≤ℤ word_highest width signed = range.high in
          omega (arith, ints, clamps, is, least, at_high, from, to);
      below = λ low. let less : r <ℤ word_lowest width signed = low in omega (arith, ints, clamps, is, least, at_high, under, over, less);
      above = λ high. let more : word_highest width signed <ℤ r = high in omega (arith, ints, clamps, is, least, at_high, under, over, more);
    }

-- the last bit
pub odd_bit-is : (v : ℤ) → FitsSigned w64 v → IsTie v (to_z w64 (bit_and (of_z w64 v) 1))
odd_bit-is (pos n) f =
    let e : bit_and n 1 ≡ n % 2 = and_mask n 1 in
    record {
      low = omega (arith, ints, e);
      high = omega (arith, ints, e);
      stays = λ z. (pos (n / 2), omega (arith, ints, e, z));
      goes = λ z. (pos (n / 2 + 1), omega (arith, ints, e, z));
    }
odd_bit-is (negsuc n) f =
    let e : bit_and (18446744073709551616 - suc n) 1 ≡ (18446744073709551616 - suc n) % 2 = and_mask (18446744073709551616 - suc n) 1 in
    let s = f.sfits in
    record {
      low = omega (arith, ints, e);
      high = omega (arith, ints, e);
      stays = λ z. (neg_ℤ (pos (suc n / 2)), omega (arith, ints, e, z, s));
      goes = λ z. (neg_ℤ (pos (n / 2)), omega (arith, ints, e, z, s));
    }

-- a shift down gives the whole number below
pub shift_floors : (v : ℤ) (by : ℕ) → RoundsDown v (2 ^ by) (shr_z v (2 ^ by))
shift_floors v by = let d = shr-divided v by in record { at_most = omega (arith, ints, d.whole); next_above = omega (arith, ints, d.whole, d.below) }

-- the whole number below is one
pub floors_one : (n : ℤ) (d : ℕ) (r s : ℤ) → RoundsDown n d r → RoundsDown n d s → r ≡ s
floors_one n d r s a b = by_lt_z r s
    (λ l. absurd (omega (arith, ints, unit_apart r s d l, a.next_above, b.at_most)))
    (λ g. by_lt_z s r (λ l. absurd (omega (arith, ints, unit_apart s r d l, b.next_above, a.at_most))) (λ h. omega (arith, ints, g, h)))

-- what the biased number's floor is to the number
module _ (n bias : ℤ) (d : ℕ) (r : ℤ) (floor : RoundsDown (n +ℤ bias) d r) where
  pub plain : bias ≡ pos 0 → RoundsDown n d r
  plain e = record { at_most = omega (arith, ints, e, floor.at_most); next_above = omega (arith, ints, e, floor.next_above) }

  pub up : bias +ℤ pos 1 ≡ pos d → RoundsUp n d r
  up e = record { at_least = omega (arith, ints, e, floor.next_above); previous_below = omega (arith, ints, e, floor.at_most) }

  pub ties_up : twice bias ≡ pos d → RoundsTiesUp n d r
  ties_up e = record { above = omega (arith, ints, e, floor.next_above); at_most = omega (arith, ints, e, floor.at_most) }

  pub ties_down : twice bias +ℤ pos 2 ≡ pos d → RoundsTiesDown n d r
  ties_down e = record { at_least = omega (arith, ints, e, floor.next_above); below = omega (arith, ints, e, floor.at_most) }

  pub ties_even : (lower tie : ℤ) → RoundsDown n d lower → IsTie lower tie → twice bias +ℤ pos 2 ≡ pos d +ℤ twice tie → RoundsTiesEven n d r
  ties_even lower tie floors t e = record {
    at_least = omega (arith, ints, e, t.low, floor.next_above);
    at_most = omega (arith, ints, e, t.high, floor.at_most);
    even_below = λ h.
        let same = floors_one n d lower r floors
        (record {
          at_most = omega (arith, ints, e, h, t.low, t.high, floor.at_most, floor.next_above);
          next_above = omega (arith, ints, e, h, t.low, t.high, floor.at_most, floor.next_above);
        }) in
        subst IsEven same (t.stays (omega (arith, ints, e, h, t.low, t.high, floor.next_above)));
    even_above = λ h.
        let q = r +ℤ negsuc 0 in
        let back : q +ℤ pos 1 ≡ r = omega (arith, ints) in
        let scaled : r *ℤ pos d ≡ q *ℤ pos d +ℤ pos d = ap (λ (z : ℤ). z *ℤ pos d) (sym back) ∙ next-scaled q d in
        let same = floors_one n d lower q floors
        (record {
          at_most = omega (arith, ints, e, h, scaled, t.low, t.high, floor.at_most, floor.next_above);
          next_above = omega (arith, ints, e, h, scaled, t.low, t.high, floor.at_most, floor.next_above);
        }) in
        subst IsEven (ap (λ (z : ℤ). z +ℤ pos 1) same ∙ back) (t.goes (omega (arith, ints, e, h, t.low, t.high, floor.at_most)));
  }

-- a bias that the sign tells
module _ (n at_least_zero below_zero : ℤ) (d : ℕ) (r : ℤ) (floor : RoundsDown (n +ℤ cond (int_lt n (pos 0)) below_zero at_least_zero) d r) where
  pub toward_zero : at_least_zero ≡ pos 0 → below_zero +ℤ pos 1 ≡ pos d → BySign n (RoundsDown n d r) (RoundsUp n d r)
  toward_zero e f = go (int_lt n (pos 0)) refl floor
    where
      go : (negative : Bool) → int_lt n (pos 0) ≡ negative → RoundsDown (n +ℤ cond negative below_zero at_least_zero) d r → BySign n (RoundsDown n d r) (RoundsUp n d r)
      go true k p = record { not_negative = λ h. absurd (omega (arith, ints, h, k)); negative = λ _. up n below_zero d r p f }
      go false k p = record { not_negative = λ _. plain n at_least_zero d r p e; negative = λ h. absurd (omega (arith, ints, h, k)) }

-- half a unit added before, and one taken off before that from what is below 0
pub away_from_zero : (n sign half : ℤ) (d : ℕ) (r : ℤ) → sign ≡ cond (int_lt n (pos 0)) (negsuc 0) (pos 0)
    → twice half ≡ pos d → RoundsDown ((n +ℤ sign) +ℤ half) d r
    → BySign n (RoundsTiesUp n d r) (RoundsTiesDown n d r)
away_from_zero n sign half d r is e floor = go (int_lt n (pos 0)) refl is
  where
    go : (negative : Bool) → int_lt n (pos 0) ≡ negative → sign ≡ cond negative (negsuc 0) (pos 0) → BySign n (RoundsTiesUp n d r) (RoundsTiesDown n d r)
    go true below s = record {
      not_negative = λ h. absurd (omega (arith, ints, h, below));
      negative = λ _. record { at_least = omega (arith, ints, e, s, floor.next_above); below = omega (arith, ints, e, s, floor.at_most) };
    }
    go false below s = record {
      not_negative = λ _. record { above = omega (arith, ints, e, s, floor.next_above); at_most = omega (arith, ints, e, s, floor.at_most) };
      negative = λ h. absurd (omega (arith, ints, h, below));
    }

-- minus one, shifted up in 64 bits
pub minus_fits : (by : ℕ) → by ≤ 63 → FitsSigned w64 (neg_ℤ (pos (2 ^ by)))
minus_fits by h = let p : 2 ^ by ≤ 2 ^ 63 = pow_mono h in omega (arith, ints, p)

pub minus_shifted : (by : ℕ) → by ≤ 63 → to_z w64 ((of_z w64 (negsuc 0) * 2 ^ by) % 18446744073709551616) ≡ neg_ℤ (pos (2 ^ by))
minus_shifted by h =
    let e : negsuc 0 *ℤ pos (2 ^ by) ≡ neg_ℤ (pos (2 ^ by)) = omega (arith, ints) in
    let one : FitsSigned w64 (negsuc 0) = omega (arith, ints) in
    shl_exact w64 (negsuc 0) by one (subst (FitsSigned w64) (sym e) (minus_fits by h)) ∙ e

-- a number of a word of at most 63 bits is one of 64, and not far below 0
pub word_fits : (width : ℕ) (signed : Bool) (v : ℤ) → width ≤ 63 → InWord width signed v → FitsSigned w64 v
word_fits width true v h number =
    let few : width - 1 ≤ 62 = omega (arith, h) in
    let p : 2 ^ (width - 1) ≤ 2 ^ 62 = pow_mono few in
    omega (arith, ints, p, pow_pos (width - 1), number.low, number.high)
word_fits width false v h number =
    let p : 2 ^ width ≤ 2 ^ 63 = pow_mono h in
    omega (arith, ints, p, pow_pos width, number.low, number.high)

pub word_low : (width : ℕ) (signed : Bool) (v : ℤ) → width ≤ 63 → InWord width signed v → neg_ℤ (pos (2 ^ 62)) ≤ℤ v
word_low width true v h number =
    let few : width - 1 ≤ 62 = omega (arith, h) in
    let p : 2 ^ (width - 1) ≤ 2 ^ 62 = pow_mono few in
    omega (arith, ints, p, number.low)
word_low width false v h number = omega (arith, ints, number.low)

-- what is left of the halves without half of them is the whole number below, with a half added before
pub halves_floor : (v halves lower : ℤ) (unit d : ℕ) → d ≡ 2 * unit → RoundsDown v unit halves
    → RoundsDown halves 2 lower → (half : ℤ) → twice half ≡ pos d → RoundsDown (v +ℤ half) d (halves -ℤ lower)
halves_floor v halves lower unit d double below next half e =
    let q = halves -ℤ lower in
    let whole : q *ℤ pos d ≡ (q *ℤ pos 2) *ℤ pos unit = ap (λ (k : ℕ). q *ℤ pos k) double ∙ sym (mul-scaled q 2 unit) in
    let up : (halves +ℤ pos 1) *ℤ pos unit ≡ halves *ℤ pos unit +ℤ pos unit = next-scaled halves unit in
    let low = scaled-mono (q *ℤ pos 2) (halves +ℤ pos 1) unit (omega (arith, ints, next.next_above)) in
    let high = scaled-mono halves (q *ℤ pos 2) unit (omega (arith, ints, next.at_most)) in
    record {
      at_most = omega (arith, ints, e, double, whole, up, low, below.at_most);
      next_above = omega (arith, ints, e, double, whole, high, below.next_above);
    }

-- half of a number of 64 bits can be taken off
pub half_fits : (v lower : ℤ) → FitsSigned w64 v → RoundsDown v 2 lower → FitsSigned w64 (v -ℤ lower)
half_fits v lower fits below = omega (arith, ints, fits, below.at_most, below.next_above)

-- the whole number above is that below the opposite, with its sign changed
pub opposite_up : (v q : ℤ) (d : ℕ) → RoundsDown (pos 0 -ℤ v) d q → RoundsUp v d (pos 0 -ℤ q)
opposite_up v q d floor =
    let n : (pos 0 -ℤ q) *ℤ pos d ≡ neg_ℤ (q *ℤ pos d) = ap (λ (z : ℤ). z *ℤ pos d) (omega (arith, ints)) ∙ scaled-neg q d in
    record { at_least = omega (arith, ints, n, floor.at_most); previous_below = omega (arith, ints, n, floor.next_above) }

-- the whole number of parts of a number above the least of 64 bits is above it too
pub parts_above : (v : ℤ) (by : ℕ) → negsuc 9223372036854775806 ≤ℤ v → negsuc 9223372036854775806 ≤ℤ shr_z v (2 ^ by)
parts_above v by h =
    let d = shift_floors v by in
    by_lt_z (shr_z v (2 ^ by)) (negsuc 9223372036854775806)
    (λ l. absurd (omega (arith, ints, unit_apart (shr_z v (2 ^ by)) (negsuc 9223372036854775806) (2 ^ by) l, d.next_above, h, pow_pos by)))
    (λ g. omega (arith, ints, g))

-- the lower bits of a number of 64, as a number without sign
pub masked_wrapped : (v : ℤ) (width mask : ℕ) → width ≤ 64 → mask + 1 ≡ 2 ^ width → FitsSigned w64 v → IsWrapped v width false (pos (bit_and (of_z w64 v) mask))
masked_wrapped v width mask h e fits =
    let u = of_z w64 v in
    let is : bit_and u mask ≡ u % 2 ^ width = ap (bit_and u) (omega (arith, e)) ∙ and_mask u width in
    let all : 64 - width + width ≡ 64 = omega (arith, h) in
    let turn : 18446744073709551616 ≡ 2 ^ (64 - width) * 2 ^ width = ap (λ (n : ℕ). 2 ^ n) (sym all) ∙ pow-add 2 (64 - width) width in
    let below : u % 2 ^ width < 2 ^ width = mod-lt u (pow_pos width) in
    let c : IsCongruent (pos (u % 2 ^ width)) v (2 ^ width) =
    IsCongruent-trans (2 ^ width) (remainder_congruent u (2 ^ width)) (IsCongruent-part (2 ^ (64 - width)) (2 ^ width) (subst (IsCongruent (pos u) v) turn (bits_congruent w64 v fits))) in
    subst (λ (k : ℕ). IsWrapped v width false (pos k)) (sym is) (record { in_word = record { low = omega (arith, ints); high = omega (arith, ints, below) }; congruent = c })
