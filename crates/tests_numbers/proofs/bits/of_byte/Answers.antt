use Rattle.std.proofs.Common.{◌^◌, ◌≤◌, arith}
use Rattle.std.proofs.Math.Pow.{pow_mono}
use Rattle.tests_numbers.proofs.bits.of_byte.Goals as goal

pub from_bits-requires-clause-below : goal.from_bits-requires-clause-below
from_bits-requires-clause-below c =
    let byte = c.ranges.bits.fits in
    let same = c.from.ensures in
    let large : 2 ^ 8 ≤ 2 ^ c.args.width = pow_mono c.requires.wide in
    omega (arith, byte, same, large)
