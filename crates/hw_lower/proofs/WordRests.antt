-- Numbers cut to a word.
use Rattle.std.proofs.Common.{◌≡◌, ℕ, ◌^◌, ◌<ℤ◌, ◌≤ℤ◌, Bool, true, false, ℤ, pos, negsuc, ◌+ℤ◌, ◌-ℤ◌, ◌*ℤ◌, ap, sym, arith, subst}
use Rattle.std.specs.Prelude.{not, if◌then◌else◌, ◌&&◌}
use mathlib.Core.Bool.{beq}
use Rattle.std.proofs.Common.{eqb, eqb-true, true≢false, int_lt}
use Rattle.math_num.specs.Bits.{truth}
use Rattle.std.specs.Ordering.{int_eq}
use Rattle.std.proofs.lemmas.Int.{ints}
use Rattle.std.proofs.lemmas.Bool.{false_from_ne_true}
use Rattle.hw_lower.specs.declared.plan.Word.{Word}
use Rattle.hw_lower.specs.inner.PlanSteps.{IsChosen}
use Rattle.math_num.specs.Word.{IsWord, InWord, IsWrapped}
use Rattle.math_num.proofs.Arithmetic.{add-scaled}
use Rattle.math_num.proofs.Residues.{is-same, not-same}
use Rattle.math_num.proofs.Words.{wrapped-is}

-- what a Choose gives
pub chosen-is : (width : ℕ) (signed : Bool) (test chosen other r : ℤ) → IsWord width signed → InWord width signed chosen → (test ≡ pos 0 → InWord width signed other)
    → IsWrapped (if not (int_eq test (pos 0)) then chosen else other) width signed r → IsChosen test chosen other r
chosen-is width signed test chosen other r word has has_other is = record {
  zero = λ e. wrapped-is other width signed r word (has_other e) (rw (is-same test (pos 0) e) at is);
  any = λ e. wrapped-is chosen width signed r word has (rw (not-same test (pos 0) e) at is);
}

-- one bit inverted
pub not-bit : (b r : ℤ) → InWord 1 false b → IsWrapped (negsuc 0 -ℤ b) 1 false r → r ≡ pos 1 -ℤ b
not-bit b r has is =
    let t : ℤ = is.congruent.turns in
    let valid : IsWord 1 false = (omega arith, omega arith) in
    let own : InWord 1 false (pos 1 -ℤ b) = record { low = omega (arith, ints, has.high); high = omega (arith, ints, has.low) } in
    wrapped-is (pos 1 -ℤ b) 1 false r valid own (record {
      in_word = is.in_word;
      congruent = record { turns = t +ℤ negsuc 0; equal = omega (arith, ints, is.congruent.equal, add-scaled t (negsuc 0) 2) };
    })

-- what the code's test of two words says
abbrev a_word : Bool → ℕ → Word
a_word signed width = record { signed = signed; width = width }

pub same-words : (one other : Word) → (beq one.signed other.signed && eqb one.width other.width) ≡ true → one ≡ other
same-words one other e = by one.signed other.signed one.width other.width e
  where
    by : (s t : Bool) (w v : ℕ) → (beq s t && eqb w v) ≡ true → a_word s w ≡ a_word t v
    by true true w v h = ap (a_word true) (eqb-true w v h)
    by false false w v h = ap (a_word false) (eqb-true w v h)
    by true false w v h = absurd (true≢false (sym h))
    by false true w v h = absurd (true≢false (sym h))

-- a number of the word that is not shifted
pub none-shifted : (v : ℤ) (up width : ℕ) (signed : Bool) → up ≡ 0 → InWord width signed v → IsWrapped (v *ℤ pos (2 ^ up)) width signed v
none-shifted v up width signed e has =
    let one : 2 ^ up ≡ 1 = ap (λ (n : ℕ). 2 ^ n) e in
    let same : v *ℤ pos (2 ^ up) ≡ v *ℤ pos 1 = ap (λ (n : ℕ). v *ℤ pos n) one in
    record { in_word = has; congruent = record { turns = pos 0; equal = omega (arith, ints, same) } }

-- a number that is wrapped is so where it is not shifted
pub wrapped-shifted : (v : ℤ) (up width : ℕ) (signed : Bool) (r : ℤ) → up ≡ 0 → IsWrapped v width signed r → IsWrapped (v *ℤ pos (2 ^ up)) width signed r
wrapped-shifted v up width signed r e is =
    let one : 2 ^ up ≡ 1 = ap (λ (n : ℕ). 2 ^ n) e in
    let same : v *ℤ pos (2 ^ up) ≡ v *ℤ pos 1 = ap (λ (n : ℕ). v *ℤ pos n) one in
    let whole : v ≡ v *ℤ pos (2 ^ up) = omega (arith, ints, same) in
    subst (λ (z : ℤ). IsWrapped z width signed r) whole is

-- what a Less gives
int-lt-is : (a b : ℤ) → (a <ℤ b → int_lt a b ≡ true) × (b ≤ℤ a → int_lt a b ≡ false)
int-lt-is a b = ((λ h. grind (arith, ints)), (λ h. false_from_ne_true (int_lt a b) (λ e. omega (arith, ints))))

pub less-is : (a b r : ℤ) → IsWrapped (truth (int_lt a b)) 1 false r → (a <ℤ b → r ≡ pos 1) × (b ≤ℤ a → r ≡ pos 0)
less-is a b r is =
    let valid : IsWord 1 false = (omega arith, omega arith) in
    let zero : InWord 1 false (pos 0) = record { low = omega (arith, ints); high = omega (arith, ints) } in
    let one : InWord 1 false (pos 1) = record { low = omega (arith, ints); high = omega (arith, ints) } in
    (λ h. wrapped-is (pos 1) 1 false r valid one (rw ((int-lt-is a b).0 h) at is), λ h. wrapped-is (pos 0) 1 false r valid zero (rw ((int-lt-is a b).1 h) at is))
