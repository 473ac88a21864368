use Rattle.std.proofs.Common.{◌≡◌, ℤ, pos, negsuc, ◌-ℤ◌, ◌≤ℤ◌, FitsSigned, to_z, of_z, refl, arith}
use Rattle.std.specs.Int.{w16}
use Rattle.std.proofs.lemmas.Int.{ints, to_z-of_z}
use Rattle.math_num.proofs.Integers.{gap_is, gap_none}
use Rattle.dg_blocks.proofs.narrow.gap.Goals as goal

near_fits : (low high : ℤ) → negsuc 63 ≤ℤ low → low ≤ℤ pos 128 → negsuc 63 ≤ℤ high → high ≤ℤ pos 128 → FitsSigned w16 (high -ℤ low)
near_fits low high a b c d = omega (arith, ints, a, b, c, d)

-- the difference, as 16 bits have it
difference : (low high : ℤ) → FitsSigned w16 low → FitsSigned w16 high → negsuc 63 ≤ℤ low → low ≤ℤ pos 128
    → negsuc 63 ≤ℤ high → high ≤ℤ pos 128
    → to_z w16 (of_z w16 (to_z w16 (of_z w16 high) -ℤ to_z w16 (of_z w16 low))) ≡ high -ℤ low
difference low high fits_low fits_high a b c d = rw (to_z-of_z w16 high fits_high, to_z-of_z w16 low fits_low) (to_z-of_z w16 (high -ℤ low) (near_fits low high a b c d))

pub overflow_sub-gap : goal.overflow_sub-gap
overflow_sub-gap c =
    let b = c.requires.bounds in
    rw (to_z-of_z w16 c.args.high c.ranges.high, to_z-of_z w16 c.args.low c.ranges.low) (near_fits c.args.low c.args.high b.0 b.1 b.2 b.3)

pub overflow_cast-result : goal.overflow_cast-result
overflow_cast-result c =
    let b = c.requires.bounds in
    let is = difference c.args.low c.args.high c.ranges.low c.ranges.high b.0 b.1 b.2 b.3 in
    let above = rw is at c.if-gap-lt0.false in
    let below = rw is at c.if-gap-gt60.false in
    rw is (omega (arith, ints, above), omega (arith, ints, below))

pub returns : goal.returns
returns c =
    let b = c.requires.bounds in
    let is = difference c.args.low c.args.high c.ranges.low c.ranges.high b.0 b.1 b.2 b.3 in
    let above = rw is at c.if-gap-lt0.false in
    let below = rw is at c.if-gap-gt60.false in
    let order : c.args.low ≤ℤ c.args.high = omega (arith, ints, above) in
    rw is (omega (arith, ints, above, below), gap_is c.args.low c.args.high (c.args.high -ℤ c.args.low) order refl, gap_none c.args.high c.args.low order)
