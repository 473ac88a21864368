-- Few decimal digits are the number that std reads of them.
use Rattle.std.proofs.Common.{◌≡◌, ℕ, ◌+◌, ◌*◌, ◌^◌, ◌<◌, ◌≤◌, Bool, true, false, cond, List, [], ◌∷◌, length, Some, None, refl, sym, ◌∙◌, ap, arith, leb-true}
use Rattle.std.specs.Prelude.{◌&&◌, nat_le, nat_lt}
use Rattle.std.specs.List.{list_all}
use Rattle.std.specs.Char.{digit_value, is_ascii_digit}
use Rattle.std.specs.Int.{IsInRange}
use Rattle.std.specs.Str.Parse.{digits_value, digits_value_after, AllDigits}
use Rattle.std.proofs.Math.Nat.{pow-le-pow_right}
use Rattle.std.proofs.lemmas.Bool.{and_parts, and_from, true≢false, ltb-true, cond-true, cond-false}
use Rattle.std.proofs.lemmas.Bool.Decides.{nat_tests}
use Rattle.std.proofs.lemmas.Int.Digits.{digits_value-lt}
use Rattle.std.proofs.lemmas.Str.{digit_value_digit}
use Rattle.std.proofs.lemmas.Str.Parse.{digit_from_value}
use Rattle.vl_read.specs.inner.Lexemes.{is_digit, number_after}
use Rattle.vl_read.proofs.Digits.{number_gives}

pub digit_range : (byte : ℕ) → is_ascii_digit byte ≡ true → IsInRange 48 57 byte
digit_range byte h = let parts = and_parts (nat_le 48 byte) (nat_le byte 57) h in (leb-true 48 byte parts.0, leb-true byte 57 parts.1)

digit_below : (byte : ℕ) → is_ascii_digit byte ≡ true → digit_value byte < 10
digit_below byte h =
    let range = digit_range byte h in
    let worth = digit_value_digit byte range in
    omega (arith, range.0, range.1, worth)

decimal_digit : (byte : ℕ) → is_digit 10 byte ≡ true → is_ascii_digit byte ≡ true
decimal_digit byte h =
    let range = digit_from_value byte (ltb-true (digit_value byte) 10 h) in
    let low = range.0 in
    let high = range.1 in
    grind (arith, nat_tests, low, high)

pub other_digit : (byte : ℕ) → is_ascii_digit byte ≡ false → is_digit 10 byte ≡ false
other_digit byte h = of (is_digit 10 byte) refl
  where
    of : (t : Bool) → is_digit 10 byte ≡ t → t ≡ false
    of false is = refl
    of true is = absurd (true≢false (sym (decimal_digit byte is) ∙ h))

-- a byte that is no digit
pub short_none : (digits : List ℕ) (n : ℕ) → list_all is_ascii_digit digits ≡ false → number_after 10 n digits ≡ None
short_none [] n h = absurd (true≢false h)
short_none (d ∷ ds) n h = of (short_none ds (n * 10 + digit_value d)) (is_ascii_digit d) refl
  where
    either : (t : Bool) → number_after 10 (n * 10 + digit_value d) ds ≡ None → cond t (number_after 10 (n * 10 + digit_value d) ds) None ≡ None
    either true e = e
    either false e = refl

    of : (list_all is_ascii_digit ds ≡ false → number_after 10 (n * 10 + digit_value d) ds ≡ None) → (t : Bool) → is_ascii_digit d ≡ t → number_after 10 n (d ∷ ds) ≡ None
    of later true is =
        let rest : list_all is_ascii_digit ds ≡ false = sym (ap (λ b. b && list_all is_ascii_digit ds) is) ∙ h in
        either (is_digit 10 d && nat_lt (n * 10 + digit_value d) (2 ^ 128)) (later rest)
    of later false is =
        let no : (is_digit 10 d && nat_lt (n * 10 + digit_value d) (2 ^ 128)) ≡ false = ap (λ b. b && nat_lt (n * 10 + digit_value d) (2 ^ 128)) (other_digit d is) in
        cond-false (is_digit 10 d && nat_lt (n * 10 + digit_value d) (2 ^ 128)) (number_after 10 (n * 10 + digit_value d) ds) None no

grows : (digits : List ℕ) (n : ℕ) → n ≤ digits_value_after 10 n digits
grows [] n = omega arith
grows (d ∷ ds) n = let more = grows ds (n * 10 + digit_value d) in omega (arith, more)

all_read : (digits : List ℕ) (n : ℕ) → list_all is_ascii_digit digits ≡ true → digits_value_after 10 n digits < 2 ^ 128 → number_after 10 n digits ≡ Some (digits_value_after 10 n digits)
all_read [] n h small = refl
all_read (d ∷ ds) n h small =
    let parts = and_parts (is_ascii_digit d) (list_all is_ascii_digit ds) h in
    let next : ℕ = n * 10 + digit_value d in
    let below : next < 2 ^ 128 = omega (arith, grows ds next, small) in
    let digit : is_digit 10 d ≡ true = let b = digit_below d parts.0 in grind (arith, nat_tests, b) in
    let fits : nat_lt next (2 ^ 128) ≡ true = grind (arith, nat_tests, below) in
    cond-true (is_digit 10 d && nat_lt next (2 ^ 128)) (number_after 10 next ds) None (and_from (is_digit 10 d) (nat_lt next (2 ^ 128)) digit fits)
    ∙ all_read ds next parts.1 small

all_digits : (digits : List ℕ) → list_all is_ascii_digit digits ≡ true → AllDigits 10 digits
all_digits [] h = tt
all_digits (d ∷ ds) h =
    let parts = and_parts (is_ascii_digit d) (list_all is_ascii_digit ds) h in
    (digit_below d parts.0, all_digits ds parts.1)

-- at most 18 digits
pub short_is : (digits : List ℕ) → length digits ≤ 18 → list_all is_ascii_digit digits ≡ true → number_after 10 0 digits ≡ Some (digits_value 10 digits)
short_is digits short h =
    let ten : 0 < 10 = omega arith in
    let below : digits_value 10 digits < 10 ^ length digits = digits_value-lt 10 digits (all_digits digits h) in
    let bound : 10 ^ length digits ≤ 10 ^ 18 = pow-le-pow_right ten short in
    all_read digits 0 h (omega (arith, below, bound))

-- at most nine digits
pub number_below : (digits : List ℕ) (number : ℕ) → Some number ≡ number_after 10 0 digits → length digits ≤ 9 → number < 1000000000
number_below digits number is few =
    let ten : 0 < 10 = omega arith in
    let read = number_gives 10 digits 0 number (sym is) in
    let below : digits_value 10 digits < 10 ^ length digits = digits_value-lt 10 digits read.0 in
    let bound : 10 ^ length digits ≤ 10 ^ 9 = pow-le-pow_right ten few in
    let same : digits_value 10 digits ≡ number = read.1 in
    omega (arith, below, bound, same)
