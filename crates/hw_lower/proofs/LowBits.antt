-- Bits of numbers in two's complement.
use Rattle.std.proofs.Common.{◌≡◌, ◌↔◌, ℕ, suc, ◌+◌, ◌-◌, ◌/◌, ◌%◌, ◌^◌, ◌<◌, ◌≤◌, Bool, true, false, ℤ, pos, negsuc, ◌+ℤ◌, ◌*ℤ◌, ap, sym, ◌∙◌, subst, arith, pow_pos, pow_mono, mod-lt, div-add-mod'}
use Rattle.std.proofs.Common.{true≢false}
use Rattle.std.proofs.lemmas.Int.{ints}
use Rattle.std.proofs.lemmas.Nat.{shr_high, shr_le}
use Rattle.std.proofs.Math.Nat.{mod-eq_of_lt}
use Rattle.math_num.specs.Word.{IsWord, InWord}
use Rattle.math_num.proofs.Arithmetic.{double}
use Rattle.math_num.specs.Bits.{low_bits, shifted_down}
use Rattle.hw_lower.specs.inner.PlanSteps.{bit_of}
use Rattle.math_num.proofs.Words.{size-below, size-half}
use Rattle.hw_net.proofs.Words.{only-sign, split-low}

pub low-below : (k : ℕ) (z : ℤ) → low_bits k z < 2 ^ k
low-below k (pos n) = mod-lt n (pow_pos k)
low-below k (negsuc n) = omega (arith, pow_pos k)

-- the bits between two places
pub slice-is : (high low : ℕ) (z : ℤ) → low ≤ high → low_bits (high + 1) z / 2 ^ low ≡ low_bits (high + 1 - low) (shifted_down z low)
slice-is high low z h =
    let e : high + 1 ≡ high + 1 - low + low = omega arith in
    ap (λ (n : ℕ). n / 2 ^ low) (ap (λ (v : ℕ). low_bits v z) e ∙ split-low (high + 1 - low) low z)
    ∙ shr_high (low_bits (high + 1 - low) (shifted_down z low)) low (low_bits low z) (low-below low z)

pub one-bit : (place : ℕ) (z : ℤ) → low_bits (place + 1) z / 2 ^ place ≡ bit_of z place
one-bit place z =
    let e : place + 1 - place ≡ 1 = omega arith in
    let h : place ≤ place = omega arith in
    slice-is place place z h ∙ ap (λ (k : ℕ). low_bits k (shifted_down z place)) e

pub bit-small : (z : ℤ) (place : ℕ) → bit_of z place < 2
bit-small z place = low-below 1 (shifted_down z place)

-- the number divided by a power of two, rounded down, and the rest
pub whole-is : (k : ℕ) (z : ℤ) → z ≡ shifted_down z k *ℤ pos (2 ^ k) +ℤ pos (low_bits k z)
whole-is k (pos n) = omega (arith, ints, div-add-mod' n (2 ^ k))
whole-is k (negsuc n) = omega (arith, ints, div-add-mod' n (2 ^ k), mod-lt n (pow_pos k), pow_pos k)

-- past a signed word each bit is its highest
pub bit-past : (width place : ℕ) (z : ℤ) → InWord width true z → width ≤ place → bit_of z (width - 1) ≡ bit_of z place
bit-past width place z has past =
    let few : width - 1 ≤ place = omega arith in
    let more : 2 ^ (width - 1) ≤ 2 ^ place = pow_mono few in
    let small = size-half width z has in
    ap (low_bits 1) (only-sign z (width - 1) small ∙ sym (only-sign z place (omega arith)))

-- past an unsigned word there is none
pub bit-none : (width place : ℕ) (z : ℤ) → IsWord width false → InWord width false z → width ≤ place → bit_of z place ≡ 0
bit-none width place (pos n) word has past =
    let more : 2 ^ width ≤ 2 ^ place = pow_mono past in
    let small = size-below width false (pos n) word has in
    ap (low_bits 1) (only-sign (pos n) place (omega arith)) ∙ omega arith
bit-none width place (negsuc n) word has past = absurd (omega (arith, ints, has.low))

below-whole : (width : ℕ) (signed : Bool) (n : ℕ) → IsWord width signed → InWord width signed (negsuc n) → suc n < 2 ^ width
below-whole width true n word has = omega (arith, ints, has.low, pow_pos (width - 1), double width (omega (arith, word.0)))
below-whole width false n word has = absurd (omega (arith, ints, has.low))

-- all bits of a number of the word are 0 where it is
pub low-all : (width count : ℕ) (signed : Bool) (z : ℤ) → IsWord width signed → InWord width signed z → width ≤ count → (z ≡ pos 0) ↔ (low_bits count z ≡ 0)
low-all width count signed (pos n) word has past =
    let more : 2 ^ width ≤ 2 ^ count = pow_mono past in
    let small = size-below width signed (pos n) word has in
    let same : n % 2 ^ count ≡ n = mod-eq_of_lt (omega arith) in
    (λ e. same ∙ omega (arith, ints, e), λ e. ap pos (sym same ∙ e))
low-all width count signed (negsuc n) word has past =
    let more : 2 ^ width ≤ 2 ^ count = pow_mono past in
    let less : suc n < 2 ^ width = below-whole width signed n word has in
    let same : n % 2 ^ count ≡ n = mod-eq_of_lt (omega arith) in
    (λ e. absurd (omega (arith, ints, e)), λ e. absurd (omega (arith, e, same)))

pub slice-in-word : (high low width : ℕ) (signed : Bool) (z : ℤ) → low ≤ high → signed ≡ false → width ≡ high - low + 1 → InWord width signed (pos (low_bits (high + 1) z / 2 ^ low))
slice-in-word high low width true z h f w = absurd (true≢false f)
slice-in-word high low width false z h f w =
    let e : high + 1 - low ≡ width = omega (arith, w, h) in
    let part : ℕ = low_bits (high + 1) z / 2 ^ low in
    let less : low_bits (high + 1 - low) (shifted_down z low) < 2 ^ (high + 1 - low) = low-below (high + 1 - low) (shifted_down z low) in
    let same : part ≡ low_bits (high + 1 - low) (shifted_down z low) = slice-is high low z h in
    let small : part < 2 ^ width = subst (λ (k : ℕ). part < 2 ^ k) e (omega (arith, less, same)) in
    record { low = omega (arith, ints); high = omega (arith, ints, small) }

-- a number shifted down stays in the word
pub down-in-word : (width : ℕ) (signed : Bool) (z : ℤ) (k : ℕ) → InWord width signed z → InWord width signed (shifted_down z k)
down-in-word width true (pos n) k has = record { low = omega (arith, ints, pow_pos (width - 1)); high = omega (arith, ints, has.high, shr_le n k) }
down-in-word width true (negsuc n) k has = record { low = omega (arith, ints, has.low, shr_le n k); high = omega (arith, ints, pow_pos (width - 1)) }
down-in-word width false (pos n) k has = record { low = omega (arith, ints); high = omega (arith, ints, has.high, shr_le n k) }
down-in-word width false (negsuc n) k has = absurd (omega (arith, ints, has.low))
