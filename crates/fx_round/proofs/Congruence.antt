-- Congruence of shifted numbers.
use Rattle.std.proofs.Common.{◌≡◌, ℕ, ◌+◌, ◌-◌, ◌*◌, ◌%◌, ◌^◌, ◌<◌, ◌≤◌, Bool, true, false, ℤ, pos, ◌+ℤ◌, ◌*ℤ◌, neg_ℤ, ap, sym, ◌∙◌, subst, arith, pow_pos, of_z, to_z, FitsSigned}
use Rattle.std.specs.Int.{w64, w128}
use Rattle.std.specs.Int.Signed.{shr_z}
use Rattle.std.proofs.lemmas.Int.{ints}
use Rattle.std.proofs.lemmas.Nat.{pow-add}
use Rattle.math_num.specs.Word.{IsWord, InWord, IsCongruent, IsWrapped}
use Rattle.math_num.proofs.Arithmetic.{add-scaled, scaled-neg, mul-scaled, IsCongruent-trans, IsCongruent-part}
use Rattle.math_num.proofs.Shifts.{shl_congruent, read_congruent}
use Rattle.fx_round.proofs.Shifts.{whole_turns, near_split}
use Rattle.math_num.proofs.Words.{word-fits}

pub shift_congruent : (v : ℤ) (by w : ℕ) → w ≤ 128 → FitsSigned w128 v → IsCongruent (to_z w128 ((of_z w128 v * 2 ^ by) % 340282366920938463463374607431768211456)) (v *ℤ pos (2 ^ by)) (2 ^ w)
shift_congruent v by w h f =
    let shifted = to_z w128 ((of_z w128 v * 2 ^ by) % 340282366920938463463374607431768211456) in
    IsCongruent-part (2 ^ (128 - w)) (2 ^ w) (subst (λ (k : ℕ). IsCongruent shifted (v *ℤ pos (2 ^ by)) k) (sym (whole_turns w h)) (shl_congruent w128 v by f))

zero_congruent : (v : ℤ) (by w : ℕ) → w ≤ by → IsCongruent (pos 0) (v *ℤ pos (2 ^ by)) (2 ^ w)
zero_congruent v by w h =
    let k : by - w + w ≡ by = omega arith in
    let e : (v *ℤ pos (2 ^ (by - w))) *ℤ pos (2 ^ w) ≡ v *ℤ pos (2 ^ by) =
    mul-scaled v (2 ^ (by - w)) (2 ^ w) ∙ ap (λ (n : ℕ). v *ℤ pos n) (sym (pow-add 2 (by - w) w) ∙ ap (λ (n : ℕ). 2 ^ n) k) in
    let z = v *ℤ pos (2 ^ (by - w)) in
    let n : neg_ℤ z *ℤ pos (2 ^ w) ≡ neg_ℤ (v *ℤ pos (2 ^ by)) = scaled-neg z (2 ^ w) ∙ ap neg_ℤ e in
    record { turns = neg_ℤ z; equal = sym (ap (λ (y : ℤ). v *ℤ pos (2 ^ by) +ℤ y) n ∙ cancel (v *ℤ pos (2 ^ by))) }
  where
    cancel : (y : ℤ) → y +ℤ neg_ℤ y ≡ pos 0
    cancel y = omega (arith, ints)

pub zero_in_word : (w : ℕ) (s : Bool) → InWord w s (pos 0)
zero_in_word w true = record { low = omega (arith, ints); high = omega (arith, ints) }
zero_in_word w false = record { low = omega (arith, ints); high = omega (arith, ints) }

pub zero_wrapped : (v : ℤ) (by w : ℕ) (s : Bool) → w ≤ by → IsWrapped (v *ℤ pos (2 ^ by)) w s (pos 0)
zero_wrapped v by w s h = record { in_word = zero_in_word w s; congruent = zero_congruent v by w h }

pub shift_wrapped : (v : ℤ) (by w : ℕ) (s : Bool) (r : ℤ) → w ≤ 128 → FitsSigned w128 v
    → IsWrapped (to_z w128 ((of_z w128 v * 2 ^ by) % 340282366920938463463374607431768211456)) w s r
    → IsWrapped (v *ℤ pos (2 ^ by)) w s r
shift_wrapped v by w s r h f k = record { in_word = k.in_word; congruent = IsCongruent-trans (2 ^ w) k.congruent (shift_congruent v by w h f) }

-- ---- the lower 64 bits of a number, and what stands above them

pub high_fits : (r : ℤ) → FitsSigned w128 r → FitsSigned w64 (shr_z r (2 ^ 64))
high_fits r f = let d = near_split r 64 (omega arith) f in omega (arith, ints, f, d.0, d.1)

halves_in_word : (kept : ℤ) (low w : ℕ) (s : Bool) → 65 ≤ w → low < 2 ^ 64 → InWord (w - 64) s kept → InWord w s (kept *ℤ pos (2 ^ 64) +ℤ pos low)
halves_in_word kept low w true many below h =
    let k : w - 64 - 1 + 64 ≡ w - 1 = omega arith in
    let power : 2 ^ (w - 64 - 1) * 2 ^ 64 ≡ 2 ^ (w - 1) = sym (pow-add 2 (w - 64 - 1) 64) ∙ ap (λ (n : ℕ). 2 ^ n) k in
    record {
      low = omega (arith, ints, h.low, power);
      high = omega (arith, ints, h.high, power, below, pow_pos (w - 64 - 1));
    }
halves_in_word kept low w false many below h =
    let k : w - 64 + 64 ≡ w = omega arith in
    let power : 2 ^ (w - 64) * 2 ^ 64 ≡ 2 ^ w = sym (pow-add 2 (w - 64) 64) ∙ ap (λ (n : ℕ). 2 ^ n) k in
    record {
      low = omega (arith, ints, h.low);
      high = omega (arith, ints, h.high, power, below, pow_pos (w - 64));
    }

-- the lower 64 bits stay, and what stands above them is wrapped
pub wrapped_halves : (r high kept : ℤ) (low w : ℕ) (s : Bool) → 65 ≤ w → low < 2 ^ 64
    → r ≡ high *ℤ pos (2 ^ 64) +ℤ pos low → IsWrapped high (w - 64) s kept
    → IsWrapped r w s (kept *ℤ pos (2 ^ 64) +ℤ pos low)
wrapped_halves r high kept low w s many below whole h =
    let c = h.congruent in
    let k : w - 64 + 64 ≡ w = omega arith in
    let power : 2 ^ (w - 64) * 2 ^ 64 ≡ 2 ^ w = sym (pow-add 2 (w - 64) 64) ∙ ap (λ (n : ℕ). 2 ^ n) k in
    let turned : (c.turns *ℤ pos (2 ^ (w - 64))) *ℤ pos (2 ^ 64) ≡ c.turns *ℤ pos (2 ^ w) = mul-scaled c.turns (2 ^ (w - 64)) (2 ^ 64) ∙ ap (λ (n : ℕ). c.turns *ℤ pos n) power in
    let scaled : kept *ℤ pos (2 ^ 64) ≡ high *ℤ pos (2 ^ 64) +ℤ (c.turns *ℤ pos (2 ^ (w - 64))) *ℤ pos (2 ^ 64) =
    ap (λ (z : ℤ). z *ℤ pos (2 ^ 64)) c.equal ∙ add-scaled high (c.turns *ℤ pos (2 ^ (w - 64))) (2 ^ 64) in
    record {
      in_word = halves_in_word kept low w s many below h.in_word;
      congruent = record { turns = c.turns; equal = omega (arith, ints, scaled, turned, whole) };
    }

-- both fit in 128 bits
pub halves_fit : (q kept : ℤ) (low w : ℕ) (s : Bool) → IsWord w s → 65 ≤ w → low < 2 ^ 64
    → IsWrapped q (w - 64) s kept → FitsSigned w128 (kept *ℤ pos (2 ^ 64))
    × FitsSigned w128 (kept *ℤ pos (2 ^ 64) +ℤ pos low)
halves_fit q kept low w s word many below h =
    let up : FitsSigned w128 (kept *ℤ pos (2 ^ 64) +ℤ pos 0) = word-fits w s _ word (halves_in_word kept 0 w s many (omega arith) h.in_word) in
    let all = word-fits w s _ word (halves_in_word kept low w s many below h.in_word) in
    let same : kept *ℤ pos (2 ^ 64) +ℤ pos 0 ≡ kept *ℤ pos (2 ^ 64) = omega (arith, ints) in
    (subst (FitsSigned w128) same up, all)

-- what is congruent modulo 2 to the power 64 is so modulo a lower power
pub wrapped_part : (r low : ℤ) (w : ℕ) (s : Bool) (result : ℤ) → w ≤ 64 → IsCongruent low r (2 ^ 64) → IsWrapped low w s result → IsWrapped r w s result
wrapped_part r low w s result few whole h =
    let k : 64 - w + w ≡ 64 = omega arith in
    let power : 2 ^ (64 - w) * 2 ^ w ≡ 2 ^ 64 = sym (pow-add 2 (64 - w) w) ∙ ap (λ (n : ℕ). 2 ^ n) k in
    record {
      in_word = h.in_word;
      congruent = IsCongruent-trans (2 ^ w) h.congruent (IsCongruent-part (2 ^ (64 - w)) (2 ^ w) (subst (IsCongruent low r) (sym power) whole));
    }

-- the lower 64 bits are congruent to the number
pub low_congruent : (r q : ℤ) (low : ℕ) → low < 2 ^ 64 → r ≡ q *ℤ pos (2 ^ 64) +ℤ pos low → IsCongruent (to_z w64 low) r (2 ^ 64)
low_congruent r q low below whole =
    IsCongruent-trans (2 ^ 64) (read_congruent w64 low below) (record { turns = neg_ℤ q; equal = omega (arith, ints, whole, scaled-neg q (2 ^ 64)) })
