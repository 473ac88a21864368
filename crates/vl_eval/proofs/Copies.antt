-- A bit that stands side by side with itself is one that is extended by its sign.
use Rattle.std.proofs.Common.{◌≡◌, ◌<◌, ◌≤◌, ◌+◌, ◌*◌, ◌-◌, ◌^◌, ℕ, zero, suc, true, replicate, ⊎_elim, refl, sym, ap, ◌∙◌, arith}
use Rattle.std.specs.Prelude.{fold}
use Rattle.std.proofs.Math.Pow.{pow_mono}
use Rattle.std.proofs.lemmas.Bool.{cases_lt}
use Rattle.std.proofs.lemmas.Nat.{pow-add}
use Rattle.vl_ast.specs.Value.{Bits, beside, extended}

-- a bit that is set, so many times
set-copies : (count left : ℕ) (b : Bits) → b.width ≡ 1 → b.bits ≡ 1 → fold beside left (replicate count b) + 1 ≡ (left + 1) * 2 ^ count
set-copies zero left b one set = omega arith
set-copies (suc count) left b one set =
    let shifted = ap (λ (n : ℕ). left * 2 ^ n) one in
    let more : beside left b + 1 ≡ (left + 1) * 2 = omega (arith, shifted, set) in
    let next : suc count ≡ count + 1 = omega arith in
    let power : 2 ^ suc count ≡ 2 ^ count * 2 = ap (λ (n : ℕ). 2 ^ n) next ∙ pow-add 2 count 1 in
    set-copies count (beside left b) b one set ∙ ap (λ (n : ℕ). n * 2 ^ count) more ∙ twice left (2 ^ count) ∙ ap (λ (n : ℕ). (left + 1) * n) (sym power)
  where
    twice : (a m : ℕ) → (a + 1) * 2 * m ≡ (a + 1) * (m * 2)
    twice a m = grind arith

-- and one that is not
clear-copies : (count : ℕ) (b : Bits) → b.bits ≡ 0 → fold beside 0 (replicate count b) ≡ 0
clear-copies zero b clear = refl
clear-copies (suc count) b clear =
    let none : beside 0 b ≡ 0 = omega (arith, clear) in
    ap (λ (left : ℕ). fold beside left (replicate count b)) none ∙ clear-copies count b clear

pub bit-copies : (count : ℕ) (b : Bits) → b.width ≡ 1 → b.bits < 2 → 0 < count → extended (record { width = 1; signed = true; bits = b.bits }) count ≡ fold beside 0 (replicate count b)
bit-copies count b one low some = ⊎_elim
    (λ (under : b.bits < 1).
    let clear : b.bits ≡ 0 = omega (arith, under) in
    ap (λ (bits : ℕ). extended (record { width = 1; signed = true; bits = bits }) count) clear ∙ sym (clear-copies count b clear))
    (λ (over : 1 ≤ b.bits).
    let set : b.bits ≡ 1 = omega (arith, over, low) in
    let all = set-copies count 0 b one set in
    let room = pow_mono some in
    let whole : 1 + (2 ^ count - 2) ≡ fold beside 0 (replicate count b) = omega (arith, all, room) in
    ap (λ (bits : ℕ). extended (record { width = 1; signed = true; bits = bits }) count) set ∙ whole)
    (cases_lt b.bits 1)
