-- Truths as one bit.
use Rattle.std.proofs.Common.{◌≡◌, Bool, true, false, not, ℤ, pos, ◌-ℤ◌, ◌≤ℤ◌, ◌<ℤ◌, int_lt, int_le, ap, sym, ◌∙◌, arith, refl, true≢false}
use Rattle.std.specs.Ordering.{int_eq}
use Rattle.std.proofs.lemmas.Int.{ints, by_lt_z}
use Rattle.std.proofs.lemmas.Bool.Decides.{Decides-int_eq}
use Rattle.math_num.specs.Word.{IsWrapped}
use Rattle.dg_model.specs.Operation.{stored_truth}
use Rattle.math_num.specs.Bits.{truth}
use Rattle.hw_lower.specs.declared.plan.Operand.{Operand}
use Rattle.hw_lower.specs.declared.plan.Plan.{Plan}
use Rattle.hw_lower.specs.inner.PlanSteps.{Numbers, IsMade, IsChosen, IsSwitched, bit_word}
use Rattle.hw_lower.proofs.StepChains.{made-map}
use Rattle.math_num.proofs.Words.{wrapped-is}
use Rattle.math_num.proofs.Residues.{only-false, is-same}
use Rattle.math_list.proofs.Tests.{lt-yes}

pub truth-is : (b : Bool) (r : ℤ) → IsWrapped (truth b) 1 false r → r ≡ stored_truth b
truth-is true r is = wrapped-is (pos 1) 1 false r (omega arith, omega arith) (record { low = omega (arith, ints); high = omega (arith, ints) }) is
truth-is false r is = wrapped-is (pos 0) 1 false r (omega arith, omega arith) (record { low = omega (arith, ints); high = omega (arith, ints) }) is

pub not-truth : (b : Bool) → pos 1 -ℤ stored_truth b ≡ stored_truth (not b)
not-truth true = omega (arith, ints)
not-truth false = omega (arith, ints)

pub lt-no : (a b : ℤ) → b ≤ℤ a → int_lt a b ≡ false
lt-no a b h = only-false (int_lt a b) (λ e. omega (arith, ints))

le-yes : (a b : ℤ) → a ≤ℤ b → int_le a b ≡ true
le-yes a b h = grind (arith, ints)

le-no : (a b : ℤ) → b <ℤ a → int_le a b ≡ false
le-no a b h = only-false (int_le a b) (λ e. omega (arith, ints))

pub not-less : (x y : ℤ) → not (int_lt x y) ≡ int_le y x
not-less x y =
    by_lt_z x y (λ h. ap not (lt-yes x y h) ∙ sym (le-no y x h)) (λ h. ap not (lt-no x y h) ∙ sym (le-yes y x h))

-- a bit that an operation gives, and its opposite
pub told-bit : {old new : Plan} {made : Operand} (told : Numbers → Bool) → IsMade old new bit_word (λ numbers. IsWrapped (truth (told numbers)) 1 false (numbers made.place)) made
    → IsMade old new bit_word (λ numbers. numbers made.place ≡ stored_truth (told numbers)) made
told-bit {made = made} told is = made-map (λ numbers. numbers made.place ≡ stored_truth (told numbers)) is (λ numbers has p. truth-is (told numbers) (numbers made.place) p)

pub told-opposite : {old new : Plan} {made : Operand} (told said : Numbers → Bool) → ((numbers : Numbers) → not (told numbers) ≡ said numbers)
    → IsMade old new bit_word (λ numbers. (b : Bool) → truth (told numbers) ≡ truth b → numbers made.place ≡ stored_truth (not b)) made
    → IsMade old new bit_word (λ numbers. numbers made.place ≡ stored_truth (said numbers)) made
told-opposite {made = made} told said same is = made-map (λ numbers. numbers made.place ≡ stored_truth (said numbers)) is (λ numbers has p. p (told numbers) refl ∙ ap stored_truth (same numbers))

-- a choice by a truth
pub switched-is : (b : Bool) (test first other r : ℤ) → test ≡ stored_truth b → IsChosen test first other r → IsSwitched b first other r
switched-is true test first other r e is = record { holds = λ _. is.any (λ z. absurd (omega (arith, ints, e, z))); fails = λ f. absurd (true≢false f) }
switched-is false test first other r e is = record { holds = λ f. absurd (true≢false (sym f)); fails = λ _. is.zero e }

pub not-zero-is : (control first other r : ℤ) → IsChosen control first other r → IsSwitched (not (int_eq control (pos 0))) first other r
not-zero-is control first other r is = record {
  holds = λ h. is.any (λ e. absurd (true≢false (sym h ∙ ap not (is-same control (pos 0) e))));
  fails = λ h. is.zero (zero-of (int_eq control (pos 0)) refl h);
}
  where
    zero-of : (b : Bool) → int_eq control (pos 0) ≡ b → not b ≡ false → control ≡ pos 0
    zero-of true e h = (Decides-int_eq control (pos 0)).0 e
    zero-of false e h = absurd (true≢false h)
