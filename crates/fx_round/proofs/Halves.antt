-- Rounding to the nearest by the whole number of halves.
use Rattle.std.proofs.Common.{◌≡◌, ℕ, ◌*◌, ◌<◌, ℤ, pos, ◌+ℤ◌, ◌*ℤ◌, ap, ◌∙◌, arith}
use Rattle.std.proofs.lemmas.Int.{ints}
use Rattle.math_num.proofs.Arithmetic.{IsDivided, add-scaled, mul-scaled, doubled-scaled, scaled-mono, scaled-at_least}
use Rattle.fx_type.specs.Conversion.{RoundsTiesUp}

-- n has so many halves and a rest, and these are twice the lower whole number and the bit that is left
pub nearest_by : (n : ℤ) (half d bit : ℕ) (halves lower : ℤ) → d ≡ 2 * half → IsDivided n half halves → halves ≡ lower *ℤ pos 2 +ℤ pos bit → bit < 2 → RoundsTiesUp n d (lower +ℤ pos bit)
nearest_by n half d bit halves lower twice divided parts few =
    let whole = lower *ℤ pos half in
    let left = pos bit *ℤ pos half in
    let upper : (lower +ℤ pos bit) *ℤ pos d ≡ (whole +ℤ left) +ℤ (whole +ℤ left) =
    ap (λ (k : ℕ). (lower +ℤ pos bit) *ℤ pos k) twice ∙ doubled-scaled (lower +ℤ pos bit) half ∙ ap (λ (z : ℤ). z +ℤ z) (add-scaled lower (pos bit) half) in
    let all : halves *ℤ pos half ≡ (whole +ℤ whole) +ℤ left =
    ap (λ (z : ℤ). z *ℤ pos half) parts ∙ add-scaled (lower *ℤ pos 2) (pos bit) half ∙ ap (λ (z : ℤ). z +ℤ left) (mul-scaled lower 2 half ∙ doubled-scaled lower half) in
    let small = scaled-mono (pos bit) (pos 1) half (omega (arith, ints, few)) in
    let some = scaled-at_least (pos bit) half (omega (arith, ints)) in
    record {
      above = omega (arith, ints, upper, all, divided.whole, divided.below, some, twice);
      at_most = omega (arith, ints, upper, all, divided.whole, small, twice);
    }
