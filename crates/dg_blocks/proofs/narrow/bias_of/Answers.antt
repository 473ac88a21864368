use Rattle.std.proofs.Common.{◌≡◌, ◌^◌, ℤ, pos, ◌+ℤ◌, ◌-ℤ◌, ◌≤ℤ◌, FitsSigned, to_z, of_z, refl, arith}
use Rattle.std.specs.Int.{w64}
use Rattle.std.proofs.lemmas.Int.{ints, to_z-of_z}
use Rattle.dg_blocks.proofs.narrow.bias_of.Goals as goal

half_is : (half : ℤ) → pos 1 ≤ℤ half → half ≤ℤ pos (2 ^ 59) → to_z w64 (of_z w64 half) ≡ half
half_is half low high = let fits : FitsSigned w64 half = omega (arith, ints, low, high) in to_z-of_z w64 half fits

less_is : (half : ℤ) → pos 1 ≤ℤ half → half ≤ℤ pos (2 ^ 59) → to_z w64 (of_z w64 (half -ℤ pos 1)) ≡ half -ℤ pos 1
less_is half low high = let fits : FitsSigned w64 (half -ℤ pos 1) = omega (arith, ints, low, high) in to_z-of_z w64 (half -ℤ pos 1) fits

most_is : (half : ℤ) → pos 1 ≤ℤ half → half ≤ℤ pos (2 ^ 59) → to_z w64 (of_z w64 (half +ℤ (half -ℤ pos 1))) ≡ half +ℤ (half -ℤ pos 1)
most_is half low high = let fits : FitsSigned w64 (half +ℤ (half -ℤ pos 1)) = omega (arith, ints, low, high) in to_z-of_z w64 (half +ℤ (half -ℤ pos 1)) fits

pub overflow_sub-less : goal.overflow_sub-less
overflow_sub-less c =
    let h = c.half_of-half.ensures in
    rw (half_is c.half_of-half.result h.low h.high) (omega (arith, ints, h.low, h.high))

pub overflow_add-most : goal.overflow_add-most
overflow_add-most c =
    let half = c.half_of-half.result in
    let h = c.half_of-half.ensures in
    rw (half_is half h.low h.high, less_is half h.low h.high) (omega (arith, ints, h.low, h.high))

pub returns-in-Ceiling : goal.returns-in-Ceiling
returns-in-Ceiling c =
    let half = c.half_of-half.result in
    let h = c.half_of-half.ensures in
    rw (half_is half h.low h.high, less_is half h.low h.high, most_is half h.low h.high, c.in-Ceiling.is) (omega (arith, ints, h.twice), omega (arith, ints, h.twice), refl)

pub returns-in-Zero : goal.returns-in-Zero
returns-in-Zero c =
    let half = c.half_of-half.result in
    let h = c.half_of-half.ensures in
    rw (half_is half h.low h.high, less_is half h.low h.high, most_is half h.low h.high, c.in-Zero.is) (refl, omega (arith, ints, h.twice), refl)

pub returns-in-Nearest : goal.returns-in-Nearest
returns-in-Nearest c =
    let half = c.half_of-half.result in
    let h = c.half_of-half.ensures in
    rw (half_is half h.low h.high, c.in-Nearest.is) (h.twice, h.twice, refl)

pub returns-in-Round : goal.returns-in-Round
returns-in-Round c =
    let half = c.half_of-half.result in
    let h = c.half_of-half.ensures in
    rw (half_is half h.low h.high, less_is half h.low h.high, c.in-Round.is) (h.twice, omega (arith, ints, h.twice), refl)

pub returns-in-Convergent : goal.returns-in-Convergent
returns-in-Convergent c =
    let half = c.half_of-half.result in
    let h = c.half_of-half.ensures in
    rw (half_is half h.low h.high, less_is half h.low h.high, c.in-Convergent.is) (omega (arith, ints, h.twice), omega (arith, ints, h.twice), refl)
