-- A fraction is a number of so many bits exactly where it is so without a common factor.
use Rattle.std.proofs.Common.{◌≡◌, ℕ, ◌+◌, ◌-◌, ◌*◌, ◌/◌, ◌%◌, ◌^◌, ◌<◌, ◌≤◌, Bool, true, false, ap, sym, ◌∙◌, refl, arith, pow_pos, mul-le-mul_left, mul-le-mul_right, div-add-mod', mod-lt, inl, inr}
use Rattle.std.specs.Prelude.{nat_le, nat_lt}
use Rattle.std.proofs.lemmas.Bool.{cases_lt, cases_Bool, leb-true, le-leb, lt-ltb, ltb-true}
use Rattle.std.proofs.lemmas.Nat.{pow-add}
use Rattle.math_num.proofs.Arithmetic.{double}
use Rattle.dg_types.specs.inner.TypeFit.{is_within, is_below}
use Rattle.math_list.proofs.Tests.{same_test}

-- ---- a common factor is divided out

below_scaled : (a b d x : ℕ) → 0 < x → a + d / x < b → a * x + d < b * x
below_scaled a b d x some h =
    let q : d / x * x + d % x ≡ d = div-add-mod' d x in
    let r : d % x < x = mod-lt d some in
    let m : (a + d / x + 1) * x ≤ b * x = mul-le-mul_right x (omega arith) in omega arith

below_unscaled : (a b d x : ℕ) → 0 < x → a * x + d < b * x → a + d / x < b
below_unscaled a b d x some h = elim (cases_lt (a + d / x) b) [
  | inl l ↦ l
  | inr g ↦ (let q : d / x * x + d % x ≡ d = div-add-mod' d x in let m : b * x ≤ (a + d / x) * x = mul-le-mul_right x g in absurd (omega arith))
]

within_scaled : (a b d x : ℕ) → 0 < x → a ≤ b + d / x → a * x ≤ b * x + d
within_scaled a b d x some h =
    let q : d / x * x + d % x ≡ d = div-add-mod' d x in
    let m : a * x ≤ (b + d / x) * x = mul-le-mul_right x h in omega arith

within_unscaled : (a b d x : ℕ) → 0 < x → a * x ≤ b * x + d → a ≤ b + d / x
within_unscaled a b d x some h = elim (cases_lt (b + d / x) a) [
  | inl l ↦ (let q : d / x * x + d % x ≡ d = div-add-mod' d x in let r : d % x < x = mod-lt d some in let m : (b + d / x + 1) * x ≤ a * x = mul-le-mul_right x (omega arith) in absurd (omega arith))
  | inr g ↦ g
]

-- ---- tests that hold in the same cases are the same

lt_test : (n half bound x y : ℕ) → (n + half < bound → x < y) → (x < y → n + half < bound) → nat_lt n (bound - half) ≡ nat_lt x y
lt_test n half bound x y to from =
    same_test (nat_lt n (bound - half)) (nat_lt x y) (λ h. lt-ltb x y (to (omega (arith, ltb-true n (bound - half) h)))) (λ h. lt-ltb n (bound - half) (omega (arith, from (ltb-true x y h))))

le_test : (n half bound x y : ℕ) → (n ≤ bound + half → x ≤ y) → (x ≤ y → n ≤ bound + half) → nat_le (n - half) bound ≡ nat_le x y
le_test n half bound x y to from =
    same_test (nat_le (n - half) bound) (nat_le x y) (λ h. le-leb x y (to (omega (arith, leb-true (n - half) bound h)))) (λ h. le-leb (n - half) bound (omega (arith, from (leb-true x y h))))

-- what is n over a bound, both times x, is over / under against a power of two
scaled_test : (negative : Bool) (n bound d x bits over under : ℕ) → 0 < x → 2 * over ≡ n * x → under ≡ d → 2 ^ bits * under ≡ bound * x
    → is_below negative n (d / x) bound ≡ is_within negative bits over under
scaled_test false n bound d x bits over under some e f g =
    lt_test n (d / x) bound (2 * over + under) (2 ^ bits * under) (λ h. omega (arith, below_scaled n bound d x some h)) (λ h. below_unscaled n bound d x some (omega arith))
scaled_test true n bound d x bits over under some e f g =
    le_test n (d / x) bound (2 * over) (2 ^ bits * under + under) (λ h. omega (arith, within_scaled n bound d x some h)) (λ h. within_unscaled n bound d x some (omega arith))

-- ---- the three cases

twice_power : (n by : ℕ) → 1 ≤ by → 2 * (n * 2 ^ (by - 1)) ≡ n * 2 ^ by
twice_power n by some = let e : 2 ^ by ≡ 2 * 2 ^ (by - 1) = double by some in omega (arith, ap (λ (x : ℕ). n * x) e)

split_power : (n all part : ℕ) → part ≤ all → n * 2 ^ all ≡ n * 2 ^ (all - part) * 2 ^ part
split_power n all part few =
    let s : all - part + part ≡ all = omega arith in
    ap (λ (k : ℕ). n * 2 ^ k) (sym s) ∙ ap (λ (x : ℕ). n * x) (pow-add 2 (all - part) part) ∙ omega arith

pub between : (negative : Bool) (over under bits by : ℕ) → 1 ≤ by → by ≤ bits → is_below negative over (under / 2 ^ by) (under * 2 ^ (bits - by)) ≡ is_within negative bits (over * 2 ^ (by - 1)) under
between negative over under bits by some few =
    scaled_test negative over (under * 2 ^ (bits - by)) under (2 ^ by) bits (over * 2 ^ (by - 1)) under (pow_pos by) (twice_power over by some) refl (omega (arith, split_power under bits by few))

pub above : (negative : Bool) (over under bits by : ℕ) → 1 ≤ by → bits ≤ by → is_below negative (over * 2 ^ (by - bits)) (under / 2 ^ bits) under ≡ is_within negative bits (over * 2 ^ (by - 1)) under
above negative over under bits by some few =
    scaled_test negative (over * 2 ^ (by - bits)) under under (2 ^ bits) bits (over * 2 ^ (by - 1)) under (pow_pos bits) (twice_power over by some ∙ split_power over by bits few) refl (omega arith)

halved_false : (over under bits by : ℕ) → is_below false (over / 2 ^ by) under (under * 2 ^ bits) ≡ is_within false bits over (under * 2 ^ (by + 1))
halved_false over under bits by =
    let x = 2 ^ by in
    let some : 0 < 2 ^ by = pow_pos by in
    let e : under * 2 ^ (by + 1) ≡ 2 * (under * 2 ^ by) = ap (λ (y : ℕ). under * y) (pow-add 2 by 1) ∙ omega arith in
    let g : 2 ^ bits * (under * 2 ^ (by + 1)) ≡ 2 * (under * 2 ^ bits * 2 ^ by) = ap (λ (y : ℕ). 2 ^ bits * y) e ∙ omega arith in
    lt_test (over / 2 ^ by) under (under * 2 ^ bits) (2 * over + under * 2 ^ (by + 1)) (2 ^ bits * (under * 2 ^ (by + 1)))
    (λ h. omega (arith, below_scaled under (under * 2 ^ bits) over (2 ^ by) some (omega arith)))
    (λ h. omega (arith, below_unscaled under (under * 2 ^ bits) over (2 ^ by) some (omega arith)))

halved_true : (over under bits by : ℕ) → 0 < over → is_below true ((over - 1) / 2 ^ by + 1) under (under * 2 ^ bits) ≡ is_within true bits over (under * 2 ^ (by + 1))
halved_true over under bits by over_some =
    let some : 0 < 2 ^ by = pow_pos by in
    let e : under * 2 ^ (by + 1) ≡ 2 * (under * 2 ^ by) = ap (λ (y : ℕ). under * y) (pow-add 2 by 1) ∙ omega arith in
    let g : 2 ^ bits * (under * 2 ^ (by + 1)) ≡ 2 * (under * 2 ^ bits * 2 ^ by) = ap (λ (y : ℕ). 2 ^ bits * y) e ∙ omega arith in
    let b : (under * 2 ^ bits + under) * 2 ^ by ≡ under * 2 ^ bits * 2 ^ by + under * 2 ^ by = omega arith in
    le_test ((over - 1) / 2 ^ by + 1) under (under * 2 ^ bits) (2 * over) (2 ^ bits * (under * 2 ^ (by + 1)) + under * 2 ^ (by + 1))
    (λ h. omega (arith, below_scaled 0 (under * 2 ^ bits + under) (over - 1) (2 ^ by) some (omega arith)))
    (λ h. omega (arith, below_unscaled 0 (under * 2 ^ bits + under) (over - 1) (2 ^ by) some (omega arith)))

pub halved_up : (over under bits by number : ℕ) → number ≡ over / 2 ^ by → is_below false number under (under * 2 ^ bits) ≡ is_within false bits over (under * 2 ^ (by + 1))
halved_up over under bits by number e = ap (λ (n : ℕ). is_below false n under (under * 2 ^ bits)) e ∙ halved_false over under bits by

pub halved_down : (over under bits by number : ℕ) → 0 < over → number ≡ (over - 1) / 2 ^ by + 1 → is_below true number under (under * 2 ^ bits) ≡ is_within true bits over (under * 2 ^ (by + 1))
halved_down over under bits by number some e = ap (λ (n : ℕ). is_below true n under (under * 2 ^ bits)) e ∙ halved_true over under bits by some

-- ---- where a bound or a number has no room

is_under : (negative : Bool) (n half bound : ℕ) → n + half < bound → is_below negative n half bound ≡ true
is_under false n half bound h = lt-ltb n (bound - half) (omega arith)
is_under true n half bound h = le-leb (n - half) bound (omega arith)

is_over : (negative : Bool) (n half bound : ℕ) → bound + half < n → is_below negative n half bound ≡ false
is_over false n half bound h = elim (cases_Bool (nat_lt n (bound - half))) [
  | inl e ↦ absurd (omega (arith, ltb-true n (bound - half) e))
  | inr e ↦ e
]
is_over true n half bound h = elim (cases_Bool (nat_le (n - half) bound)) [
  | inl e ↦ absurd (omega (arith, leb-true (n - half) bound e))
  | inr e ↦ e
]

part_bound : (n x : ℕ) → 0 < x → n / x ≤ n
part_bound n x some = let q : n / x * x + n % x ≡ n = div-add-mod' n x in let m : n / x * 1 ≤ n / x * x = mul-le-mul_left (n / x) some in omega arith

pub between_far : (negative : Bool) (over under bits by : ℕ) → 1 ≤ by → by ≤ bits → over + under < under * 2 ^ (bits - by) → true ≡ is_within negative bits (over * 2 ^ (by - 1)) under
between_far negative over under bits by some few far =
    sym (is_under negative over (under / 2 ^ by) (under * 2 ^ (bits - by)) (omega (arith, part_bound under (2 ^ by) (pow_pos by)))) ∙ between negative over under bits by some few

pub above_far : (negative : Bool) (over under bits by : ℕ) → 1 ≤ by → bits ≤ by → under + under < over * 2 ^ (by - bits) → false ≡ is_within negative bits (over * 2 ^ (by - 1)) under
above_far negative over under bits by some few far =
    sym (is_over negative (over * 2 ^ (by - bits)) (under / 2 ^ bits) under (omega (arith, part_bound under (2 ^ bits) (pow_pos bits)))) ∙ above negative over under bits by some few

pub halved_far : (negative : Bool) (over under bits by : ℕ) → 0 < over → over + under < under * 2 ^ bits → true ≡ is_within negative bits over (under * 2 ^ (by + 1))
halved_far false over under bits by over_some far =
    sym (is_under false (over / 2 ^ by) under (under * 2 ^ bits) (omega (arith, part_bound over (2 ^ by) (pow_pos by)))) ∙ halved_false over under bits by
halved_far true over under bits by over_some far =
    sym (is_under true ((over - 1) / 2 ^ by + 1) under (under * 2 ^ bits) (omega (arith, part_bound (over - 1) (2 ^ by) (pow_pos by)))) ∙ halved_true over under bits by over_some
