-- The bytes of a decimal number are digits, behind a minus where it is negative.
use Rattle.std.proofs.Common.{◌≡◌, ℕ, zero, suc, ◌+◌, ◌/◌, ◌%◌, ◌≤◌, ◌<◌, ℤ, pos, negsuc, Bool, true, false, cond, List, [], ◌∷◌, length, decimal, arith}
use Rattle.std.specs.Prelude.{◌==◌, nat_lt}
use Rattle.std.specs.Fmt.{digit_glyph, digits, digits_onto, signed_decimal}
use Rattle.std.specs.List.{AllByRecursion}
use Rattle.std.proofs.lemmas.Bool.{cond-true, lt-ltb, ne_eqb}

-- a digit, or a minus or what stands between them
pub record IsPlain (byte : ℕ) : Type 0 where
  pub low : 45 ≤ byte
  pub high : byte ≤ 57

-- a glyph of a digit
glyph-is : (d : ℕ) → d < 10 → digit_glyph false d ≡ 48 + d
glyph-is d below = cond-true (nat_lt d 10) (48 + d) (87 + d) (lt-ltb d 10 below)

last-glyph : (n : ℕ) → IsPlain (digit_glyph false (n % 10))
last-glyph n = let below : n % 10 < 10 = omega arith in let is = glyph-is (n % 10) below in record { low = omega (arith, is); high = omega (arith, is, below) }

plain-onto : (k n : ℕ) (acc : List ℕ) → AllByRecursion IsPlain acc → AllByRecursion IsPlain (digits_onto k 10 false n acc)
plain-onto zero n acc plain = plain
plain-onto (suc k) n acc plain =
    elim (n / 10 == 0) as (λ ends. AllByRecursion IsPlain (cond ends (digit_glyph false (n % 10) ∷ acc) (digits_onto k 10 false (n / 10) (digit_glyph false (n % 10) ∷ acc)))) [
      | true ↦ (last-glyph n, plain)
      | false ↦ plain-onto k (n / 10) (digit_glyph false (n % 10) ∷ acc) (last-glyph n, plain)
    ]

grows-onto : (k n : ℕ) (acc : List ℕ) → length acc ≤ length (digits_onto k 10 false n acc)
grows-onto zero n acc = omega arith
grows-onto (suc k) n acc =
    elim (n / 10 == 0) as (λ ends. length acc ≤ length (cond ends (digit_glyph false (n % 10) ∷ acc) (digits_onto k 10 false (n / 10) (digit_glyph false (n % 10) ∷ acc)))) [
      | true ↦ omega arith
      | false ↦ (let more : suc (length acc) ≤ length (digits_onto k 10 false (n / 10) (digit_glyph false (n % 10) ∷ acc)) =
          grows-onto k (n / 10) (digit_glyph false (n % 10) ∷ acc) in omega (arith, more))
    ]

some-onto : (k n : ℕ) → 0 < length (digits_onto (suc k) 10 false n [])
some-onto k n =
    elim (n / 10 == 0) as (λ ends. 0 < length (cond ends (digit_glyph false (n % 10) ∷ []) (digits_onto k 10 false (n / 10) (digit_glyph false (n % 10) ∷ [])))) [
      | true ↦ omega arith
      | false ↦ (let more : 1 ≤ length (digits_onto k 10 false (n / 10) (digit_glyph false (n % 10) ∷ [])) = grows-onto k (n / 10) (digit_glyph false (n % 10) ∷ []) in omega (arith, more))
    ]

plain-decimal : (n : ℕ) → AllByRecursion IsPlain (decimal n)
unfolding digits
plain-decimal n = plain-onto 64 n [] tt

some-decimal : (n : ℕ) → 0 < length (decimal n)
unfolding digits
some-decimal n = some-onto 63 n

pub plain-signed : (v : ℤ) → AllByRecursion IsPlain (signed_decimal v)
plain-signed (pos n) = plain-decimal n
plain-signed (negsuc n) = (record { low = omega arith; high = omega arith }, plain-decimal (suc n))

pub some-signed : (v : ℤ) → 0 < length (signed_decimal v)
some-signed (pos n) = some-decimal n
some-signed (negsuc n) = let more = some-decimal (suc n) in omega (arith, more)

-- ---- so none of them is a mark
pub none-marks : (p : ℕ → Bool) → ((byte : ℕ) → IsPlain byte → p byte ≡ false) → (bytes : List ℕ) → AllByRecursion IsPlain bytes → AllByRecursion (λ byte. p byte ≡ false) bytes
none-marks p none [] plain = tt
none-marks p none (byte ∷ bytes) plain = (none byte plain.0, none-marks p none bytes plain.1)

pub none-of-mark : (mark : ℕ) → mark < 45 → (byte : ℕ) → IsPlain byte → (byte == mark) ≡ false
none-of-mark mark low byte plain = ne_eqb byte mark (λ same. let least = plain.low in omega (arith, same, low, least))
