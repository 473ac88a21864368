-- A number of up to three digits, written before a place in a list of bytes.
use Rattle.std.proofs.Common.{◌≡◌, ℕ, ◌+◌, ◌*◌, ◌-◌, ◌/◌, ◌%◌, ◌<◌, ◌≤◌, List, [], ◌∷◌, ◌++◌, length, drop, set, length-set, inl, inr, true, false, sym, ap, ◌∙◌, arith, rules}
use Rattle.std.specs.Prelude.{nat_lt}
use Rattle.std.specs.Int.{from_bool}
use Rattle.std.specs.Fmt.{decimal}
use Rattle.std.proofs.lemmas.List.{drop-set, drop-set-lt}
use Rattle.std.proofs.lemmas.Bool.{cases_lt}
use Rattle.std.proofs.lemmas.Bool.Decides.{nat_tests}
use Rattle.std.proofs.lemmas.Fmt.{decimal_digit}
use Rattle.itoa.proofs.Decimal.{decimal_two, decimal_pair}

decimal_three : (n : ℕ) → 100 ≤ n → n < 1000 → decimal n ≡ (48 + n / 10 / 10) ∷ (48 + (n / 10 - n / 10 / 10 * 10)) ∷ (48 + (n - n / 10 * 10)) ∷ []
decimal_three n low high =
    let hundreds : n / 100 ≡ n / 10 / 10 = omega arith in
    let tens : n % 100 / 10 ≡ n / 10 - n / 10 / 10 * 10 = omega arith in
    let ones : n % 100 % 10 ≡ n - n / 10 * 10 = omega arith in
    rw (decimal_pair n low (omega arith), decimal_digit (n / 100) (omega arith), hundreds, tens, ones)

-- the bytes with three more before a place
abbrev pub with_three : List ℕ → ℕ → ℕ → ℕ → ℕ → List ℕ
with_three bytes end x y z = set (set (set bytes (end - 1) z) (end - 2) y) (end - 3) x

put : (xs : List ℕ) (at next b : ℕ) → next ≡ at + 1 → at < length xs → drop at (set xs at b) ≡ b ∷ drop next xs
put xs at next b is inside = drop-set xs at b inside ∙ ap (λ n. b ∷ drop n xs) (omega arith)

one_left : (bytes : List ℕ) (end z : ℕ) → 3 ≤ end → end ≤ length bytes → drop (end - 1) (set bytes (end - 1) z) ≡ z ∷ drop end bytes
one_left bytes end z room within = put bytes (end - 1) end z (omega arith) (omega arith)

two_left : (bytes : List ℕ) (end y z : ℕ) → 3 ≤ end → end ≤ length bytes → drop (end - 2) (set (set bytes (end - 1) z) (end - 2) y) ≡ y ∷ z ∷ drop end bytes
two_left bytes end y z room within =
    put (set bytes (end - 1) z) (end - 2) (end - 1) y (omega arith) (omega (arith, length-set bytes (end - 1) z))
    ∙ ap (λ rest. y ∷ rest) (one_left bytes end z room within)

last_three : (bytes : List ℕ) (end x y z : ℕ) → 3 ≤ end → end ≤ length bytes → drop (end - 3) (with_three bytes end x y z) ≡ x ∷ y ∷ z ∷ drop end bytes
last_three bytes end x y z room within =
    put (set (set bytes (end - 1) z) (end - 2) y) (end - 3) (end - 2) x (omega arith) (omega (arith, length-set bytes (end - 1) z, length-set (set bytes (end - 1) z) (end - 2) y))
    ∙ ap (λ rest. x ∷ rest) (two_left bytes end y z room within)

last_two : (bytes : List ℕ) (end x y z : ℕ) → 3 ≤ end → end ≤ length bytes → drop (end - 2) (with_three bytes end x y z) ≡ y ∷ z ∷ drop end bytes
last_two bytes end x y z room within =
    drop-set-lt (end - 2) (set (set bytes (end - 1) z) (end - 2) y) (end - 3) x (omega arith) ∙ two_left bytes end y z room within

last_one : (bytes : List ℕ) (end x y z : ℕ) → 3 ≤ end → end ≤ length bytes → drop (end - 1) (with_three bytes end x y z) ≡ z ∷ drop end bytes
last_one bytes end x y z room within =
    drop-set-lt (end - 1) (set (set bytes (end - 1) z) (end - 2) y) (end - 3) x (omega arith)
    ∙ drop-set-lt (end - 1) (set bytes (end - 1) z) (end - 2) y (omega arith)
    ∙ one_left bytes end z room within

-- a number's digits stand before a place from `start` on
pub record IsPut (number : ℕ) (bytes whole : List ℕ) (end start : ℕ) : Type 0 where
  pub counted : start + length (decimal number) ≡ end
  pub text : drop start whole ≡ decimal number ++ drop end bytes

put_as : (n start end : ℕ) (digits bytes whole : List ℕ) → decimal n ≡ digits → start + length digits ≡ end → drop start whole ≡ digits ++ drop end bytes → IsPut n bytes whole end start
put_as n start end digits bytes whole is counted text = record {
  counted = ap (λ d. start + length d) is ∙ counted;
  text = text ∙ ap (λ d. d ++ drop end bytes) (sym is);
}

flag_is : (n flag : ℕ) → flag ≡ from_bool (nat_lt 0 n) → (0 < n → flag ≡ 1) × (n ≡ 0 → flag ≡ 0)
flag_is n flag is = (
  λ some. is ∙ ap from_bool (let h : nat_lt 0 n ≡ true = search (rules, nat_tests) in h),
  λ none. is ∙ ap from_bool (let h : nat_lt 0 n ≡ false = search (rules, nat_tests) in h),
)

-- which of the three digits count
pub put_three : (n end ten hundred : ℕ) (bytes : List ℕ) → n < 1000 → 3 ≤ end → end ≤ length bytes
    → ten ≡ from_bool (nat_lt 0 (n / 10)) → hundred ≡ from_bool (nat_lt 0 (n / 10 / 10))
    → IsPut n bytes (with_three bytes end (48 + n / 10 / 10) (48 + (n / 10 - n / 10 / 10 * 10))
    (48 + (n - n / 10 * 10))) end (end - 1 - ten - hundred)
put_three n end ten hundred bytes short room within is_ten is_hundred =
    let x = 48 + n / 10 / 10 in
    let y = 48 + (n / 10 - n / 10 / 10 * 10) in
    let z = 48 + (n - n / 10 * 10) in
    let tens = flag_is (n / 10) ten is_ten in
    let hundreds = flag_is (n / 10 / 10) hundred is_hundred in
    elim (cases_lt n 10) [
      | inl one ↦
          let start : end - 1 - ten - hundred ≡ end - 1 = omega (arith, tens.1 (omega arith), hundreds.1 (omega arith)) in
          let digit : n ≡ n - n / 10 * 10 = omega arith in
          put_as n (end - 1 - ten - hundred) end (z ∷ []) bytes (with_three bytes end x y z)
          (decimal_digit n one ∙ ap (λ d. (48 + d) ∷ []) digit) (omega arith)
          (ap (λ s. drop s (with_three bytes end x y z)) start ∙ last_one bytes end x y z room within)
      | inr more ↦ elim (cases_lt n 100) [
        | inl two ↦
            let start : end - 1 - ten - hundred ≡ end - 2 = omega (arith, tens.0 (omega arith), hundreds.1 (omega arith)) in
            let digit : n / 10 ≡ n / 10 - n / 10 / 10 * 10 = omega arith in
            let last : n % 10 ≡ n - n / 10 * 10 = omega arith in
            put_as n (end - 1 - ten - hundred) end (y ∷ z ∷ []) bytes (with_three bytes end x y z)
            (decimal_two n more two ∙ ap (λ d. (48 + d) ∷ (48 + n % 10) ∷ []) digit ∙ ap (λ d. y ∷ (48 + d) ∷ []) last) (omega arith)
            (ap (λ s. drop s (with_three bytes end x y z)) start ∙ last_two bytes end x y z room within)
        | inr three ↦
            let start : end - 1 - ten - hundred ≡ end - 3 = omega (arith, tens.0 (omega arith), hundreds.0 (omega arith)) in
            put_as n (end - 1 - ten - hundred) end (x ∷ y ∷ z ∷ []) bytes (with_three bytes end x y z)
            (decimal_three n three short) (omega arith)
            (ap (λ s. drop s (with_three bytes end x y z)) start ∙ last_three bytes end x y z room within)
      ]
    ]
