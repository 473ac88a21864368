-- The closed form of an accumulator.
use Rattle.std.proofs.Common.{◌≡◌, ◌≢◌, ℕ, zero, suc, ◌+◌, ◌-◌, ◌*◌, ◌<◌, ◌≤◌, ◌^◌, inl, inr, Bool, ℤ, pos, ◌+ℤ◌, ap, sym, ◌∙◌, subst, arith, refl}
use Rattle.std.proofs.lemmas.Int.{ints}
use Rattle.std.proofs.lemmas.Bool.{cases_lt}
use Rattle.std.proofs.Math.IntN.{+ℤ_idr}
use Rattle.math_num.specs.Word.{InWord, IsCongruent, IsWrapped}
use Rattle.math_num.proofs.Arithmetic.{add-scaled, IsCongruent-refl, int_cases}
use Rattle.hw_net.specs.Registers.{Wave, Span, Takes, IsAcc}
use Rattle.hw_net.specs.Closed.{frame_start}
use Rattle.hw_net.specs.Gathered.{IsPart, total, AccShows}
use Rattle.hw_net.proofs.Clocks.{none-before, not-takes, takes-at, place_in}

added : (sum v p r : ℤ) (width : ℕ) (signed : Bool) → IsWrapped sum width signed v → IsWrapped (v +ℤ p) width signed r → IsWrapped (sum +ℤ p) width signed r
added sum v p r width signed a b = record {
  in_word = b.in_word;
  congruent = record { turns = a.congruent.turns +ℤ b.congruent.turns; equal = omega (arith, ints, a.congruent.equal, b.congruent.equal, add-scaled a.congruent.turns b.congruent.turns (2 ^ width)) };
}

module _ (n : ℕ) (span : Span) (width : ℕ) (signed : Bool) (enable from part wave : Wave) (some : 0 < span.length)
    (words : (c : ℕ) → c < n → InWord width signed (wave c)) (quiet : (c : ℕ) → c < n → c < span.start → enable c ≡ pos 0) (parts : IsPart enable from part) (acc : IsAcc n span width signed enable from wave)
  where
    -- before the first frame it stays as it began
    early : (c : ℕ) → c < n → c ≤ span.start → wave c ≡ pos 0
    early zero h low = acc.begins h
    early (suc c) h low =
        let e : suc c ≡ c + 1 = omega arith in
        rw e (acc.keeps c (omega arith) (none-before span (span.length - 1) c (omega arith) (omega arith)) (quiet c (omega arith) (omega arith)) ∙ early c (omega arith) (omega arith))

    at-start : (k : ℕ) → frame_start span k < n → wave (frame_start span k) ≡ pos 0
    at-start zero h = early (frame_start span zero) h (omega arith)
    at-start (suc k) h =
        let c : ℕ = frame_start span k + (span.length - 1) in
        let e : frame_start span (suc k) ≡ c + 1 = omega arith in
        rw e (acc.clears c (omega arith) (takes-at span (span.length - 1) k (omega arith)))

    -- no edge but the last clears
    goes-on : (k j : ℕ) → suc j < span.length → ¬ Takes span (span.length - 1) (frame_start span k + j)
    goes-on k j below t =
        let e = place_in span k j (frame_start span k + j) (omega arith) refl in
        omega (arith, e, t.at_slot)

    within : (k j : ℕ) → frame_start span k + j < n → j < span.length → IsWrapped (total part (frame_start span k) j) width signed (wave (frame_start span k + j))
    within k zero h l =
        let e : frame_start span k + 0 ≡ frame_start span k = omega arith in
        let is : wave (frame_start span k + 0) ≡ pos 0 = ap wave e ∙ at-start k (omega arith) in
        record { in_word = words (frame_start span k + 0) h; congruent = subst (λ (v : ℤ). IsCongruent v (pos 0) (2 ^ width)) (sym is) (IsCongruent-refl (pos 0) (2 ^ width)) }
    within k (suc j) h l =
        let c : ℕ = frame_start span k + j in
        let e : frame_start span k + suc j ≡ c + 1 = omega arith in
        let before = within k j (omega arith) (omega arith) in
        subst (λ (x : ℕ). IsWrapped (total part (frame_start span k) j +ℤ part c) width signed (wave x)) (sym e)
        (elim (int_cases (enable c) (pos 0)) [
          | inl off ↦
              let kept = acc.keeps c (omega arith) (goes-on k j l) off in
              let none : total part (frame_start span k) j +ℤ part c ≡ total part (frame_start span k) j =
              ap (λ (v : ℤ). total part (frame_start span k) j +ℤ v) (parts.off c off)
              ∙ +ℤ_idr (total part (frame_start span k) j) in
              subst (λ (v : ℤ). IsWrapped (total part (frame_start span k) j +ℤ part c) width signed v) (sym kept)
              (subst (λ (v : ℤ). IsWrapped v width signed (wave c)) (sym none) before)
          | inr on ↦
              added (total part (frame_start span k) j) (wave c) (part c) (wave (c + 1)) width signed before
              (subst (λ (v : ℤ). IsWrapped (wave c +ℤ v) width signed (wave (c + 1))) (sym (parts.on c on)) (acc.adds c (omega arith) (goes-on k j l) on))
        ])

    pub acc-closed : AccShows n span width signed part wave
    acc-closed = record { within = within }
