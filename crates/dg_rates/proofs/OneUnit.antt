-- Periods compared in one unit.
use Rattle.std.proofs.Common.{◌≡◌, ℕ, zero, suc, ◌+◌, ◌-◌, ◌*◌, ◌%◌, ◌^◌, ◌<◌, ◌≤◌, ◌⊎◌, Option, Some, None, sym, ap, ◌∙◌, inl, inr, arith}
use Rattle.std.specs.Prelude.{◌↔◌, IfSome}
use Rattle.std.proofs.Math.Nat.{mul_assoc, mul-mod_left, eq_of_mul-eq-mul_right, lt_of_mul-lt-mul_right, mul-le-mul_right, pow-suc}
use Rattle.std.proofs.lemmas.Nat.{mul-le, pow-add}
use Rattle.dg_rates.specs.inner.Units.{IsTimes, IsAligned}
use Rattle.dg_rates.specs.declared.units.Aligned.{Aligned}

pub ten_positive : (e : ℕ) → 0 < 10 ^ e
ten_positive zero = omega arith
ten_positive (suc e) = omega (arith, pow-suc 10 e, ten_positive e)

pub ten_mono : (e k : ℕ) → e ≤ k → 10 ^ e ≤ 10 ^ k
ten_mono e k below =
    let more : k ≡ e + (k - e) = omega (arith, below) in
    let parts : 10 ^ k ≡ 10 ^ e * 10 ^ (k - e) = ap (λ n. 10 ^ n) more ∙ pow-add 10 e (k - e) in
    omega (arith, parts, mul-le (10 ^ e) 1 (10 ^ e) (10 ^ (k - e)) (omega arith) (ten_positive (k - e)))

-- so many zeros more make the rank of the other
pub raised : (digits low high : ℕ) → low ≤ high → digits * 10 ^ high ≡ (digits * 10 ^ (high - low)) * 10 ^ low
raised digits low high below =
    let more : high ≡ (high - low) + low = omega (arith, below) in
    ap (λ n. digits * 10 ^ n) more ∙ ap (λ p. digits * p) (pow-add 10 (high - low) low) ∙ sym (mul_assoc digits (10 ^ (high - low)) (10 ^ low))

pub some_zeros : (digits zeros : ℕ) → 0 < digits → 0 < digits * 10 ^ zeros
some_zeros digits zeros some = omega (arith, mul-le 1 1 digits (10 ^ zeros) some (ten_positive zeros))

-- the first of two is less where its number in one unit is
pub less_aligned : (first second : ℕ) (aligned : Aligned) (a : IsAligned first second aligned) → (a.left < a.right) ↔ (first < second)
less_aligned first second aligned a = (
  λ less. rw (a.first_is, a.second_is) (scaled_less a.left a.right a.unit a.some less),
  λ less. lt_of_mul-lt-mul_right a.unit (rw (a.first_is, a.second_is) at less),
)
  where
    scaled_less : (x y unit : ℕ) → 0 < unit → x < y → x * unit < y * unit
    scaled_less x y unit some less = omega (arith, mul-le-mul_right unit less)

-- the first is so many times the second where its number in one unit is
pub times_aligned : (first second : ℕ) (aligned : Aligned) (a : IsAligned first second aligned) (times : ℕ) → IsTimes a.left a.right times ↔ IsTimes first second times
times_aligned first second aligned a times = (
  λ t. record { few = t.few; whole = rw (a.first_is, a.second_is) (ap (λ n. n * a.unit) t.whole ∙ mul_assoc times a.right a.unit) },
  λ t. record {
    few = t.few;
    whole = eq_of_mul-eq-mul_right a.unit a.some a.left (times * a.right)
        (sym a.first_is ∙ t.whole ∙ ap (λ n. times * n) a.second_is ∙ sym (mul_assoc times a.right a.unit));
  },
)

-- what leaves a remainder is no such multiple
pub no_times : (number divisor times : ℕ) → (number % divisor ≡ 0 → ⊥) → ¬ IsTimes number divisor times
no_times number divisor times some t = some (ap (λ n. n % divisor) t.whole ∙ mul-mod_left times divisor)

pub too_small : (left right times : ℕ) → 0 < left → left < 10 ^ 18 → 2 ^ 128 ≤ right → ¬ IsTimes left right times
too_small left right zero some few large t = omega (arith, some, t.whole)
too_small left right (suc times) some few large t = omega (arith, few, large, t.whole, mul-le 1 right (suc times) right (omega arith) (omega arith))

pub if_some_also : (o : Option ℕ) (P Q : ℕ → Type 0) → ((n : ℕ) → P n → Q n) → IfSome o P → IfSome o Q
if_some_also None P Q also h = h
if_some_also (Some n) P Q also h = also n h

-- a number without room in 128 bits is the one of many digits
pub other_few : (left right : ℕ) → (left < 10 ^ 18) ⊎ (right < 10 ^ 18) → 2 ^ 128 ≤ left → right < 10 ^ 18
other_few left right (inl few) large = omega (arith, few, large)
other_few left right (inr few) large = few

pub first_few : (left right : ℕ) → (left < 10 ^ 18) ⊎ (right < 10 ^ 18) → 2 ^ 128 ≤ right → left < 10 ^ 18
first_few left right (inl few) large = few
first_few left right (inr few) large = omega (arith, few, large)
