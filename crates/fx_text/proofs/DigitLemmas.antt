-- Digits read up to a bound. Crates above may cite these.
use Rattle.std.proofs.Common.{◌≡◌, ℕ, ◌+◌, ◌*◌, ◌-◌, ◌^◌, ◌<◌, ◌≤◌, min, List, [], ◌∷◌, sym, ap, get_or, drop, length, ◌∙◌, arith}
use Rattle.std.specs.Char.{digit_value}
use Rattle.std.specs.Char.{IsAsciiDigit}
use Rattle.std.specs.Str.Parse.{digits_value_after}
use Rattle.std.proofs.Math.Nat.{pow-le-pow_right}
use Rattle.std.proofs.lemmas.List.{drop_more}
use Rattle.std.proofs.lemmas.Str.{digit_value_digit}

-- a number of at most this many digits
pub below_power : (value i most : ℕ) → value < 10 ^ i → i ≤ most → value < 10 ^ most
below_power value i most small few = omega (arith, pow-le-pow_right {n = 10} (omega arith) {i = i} {j = most} few)

step : (n d most : ℕ) → min (n * 10 + d) most ≡ min (min n most * 10 + d) most
step n d most = omega arith

-- a number that is cut to a bound on the way is in the end cut to it all the same
pub min-digits_value_after : (most n : ℕ) (ds : List ℕ) → min (digits_value_after 10 (min n most) ds) most ≡ min (digits_value_after 10 n ds) most
min-digits_value_after most n [] = omega arith
min-digits_value_after most n (c ∷ cs) =
    sym (min-digits_value_after most (min n most * 10 + digit_value c) cs)
    ∙ ap (λ v. min (digits_value_after 10 v cs) most) (sym (step n (digit_value c) most))
    ∙ min-digits_value_after most (n * 10 + digit_value c) cs

pub long_more : (ds : List ℕ) (i value next : ℕ) → i < length ds → IsAsciiDigit (get_or ds i 0)
    → next ≡ min (min (value * 10) (2 ^ 128 - 1) + (get_or ds i 0 - 48)) (2 ^ 128 - 1)
    → min (digits_value_after 10 next (drop (i + 1) ds)) (2 ^ 128 - 1)
    ≡ min (digits_value_after 10 value (drop i ds)) (2 ^ 128 - 1)
long_more ds i value next inside digit is =
    let cut : next ≡ min (value * 10 + digit_value (get_or ds i 0)) (2 ^ 128 - 1) = omega (arith, digit_value_digit (get_or ds i 0) digit) in
    ap (λ v. min (digits_value_after 10 v (drop (i + 1) ds)) (2 ^ 128 - 1)) cut
    ∙ min-digits_value_after (2 ^ 128 - 1) (value * 10 + digit_value (get_or ds i 0)) (drop (i + 1) ds)
    ∙ ap (λ l. min (digits_value_after 10 value l) (2 ^ 128 - 1)) (sym (drop_more ds i 0 inside))
