use Rattle.std.proofs.Common.{◌^◌, ◌+ℤ◌, FitsSigned, arith}
use Rattle.std.specs.Int.{w64}
use Rattle.std.specs.Int.Signed.{shr_z}
use Rattle.std.proofs.lemmas.Int.{ints, to_z-of_z}
use Rattle.dg_blocks.specs.Narrow.{IsTie}
use Rattle.dg_blocks.proofs.NarrowWords.{shifted_modest}
use Rattle.dg_blocks.proofs.Shifts.{shr-fits, shifted_is}
use Rattle.dg_blocks.proofs.narrow.biased_shift.Goals as goal

pub returns-clause-shifted : goal.returns-clause-shifted
returns-clause-shifted c =
    let v = to_z-of_z w64 c.args.v c.ranges.v in
    let b = to_z-of_z w64 c.args.bias c.ranges.bias in
    let t = to_z-of_z w64 c.tie.result (record { sfits = c.tie.type_inv }) in
    let l = to_z-of_z w64 (shr_z c.args.v (2 ^ c.args.down)) (shr-fits c.args.v (2 ^ c.args.down) c.ranges.v) in
    let tie : IsTie c.args.even (shr_z c.args.v (2 ^ c.args.down)) c.tie.result = rw (v, l) at c.tie.ensures in
    let first : FitsSigned w64 (c.args.v +ℤ c.args.bias) = omega (arith, ints, c.requires.small.low, c.requires.small.high, c.requires.bias.0, c.requires.bias.1) in
    let second : FitsSigned w64 (c.args.v +ℤ c.args.bias +ℤ c.tie.result) = omega (arith, ints, c.requires.small.low, c.requires.small.high, c.requires.bias.0, c.requires.bias.1, tie.low, tie.high) in
    let f = to_z-of_z w64 (c.args.v +ℤ c.args.bias) first in
    let s = to_z-of_z w64 (c.args.v +ℤ c.args.bias +ℤ c.tie.result) second in
    let r = to_z-of_z w64 (shr_z (c.args.v +ℤ c.args.bias +ℤ c.tie.result) (2 ^ c.args.down)) (shr-fits (c.args.v +ℤ c.args.bias +ℤ c.tie.result) (2 ^ c.args.down) second) in
    rw (v, b, f, t, s, r) (shifted_is c.args.v c.args.bias c.args.even c.args.down c.tie.result tie)

pub returns-clause-modest : goal.returns-clause-modest
returns-clause-modest c =
    let v = to_z-of_z w64 c.args.v c.ranges.v in
    let b = to_z-of_z w64 c.args.bias c.ranges.bias in
    let t = to_z-of_z w64 c.tie.result (record { sfits = c.tie.type_inv }) in
    let first : FitsSigned w64 (c.args.v +ℤ c.args.bias) = omega (arith, ints, c.requires.small.low, c.requires.small.high, c.requires.bias.0, c.requires.bias.1) in
    let second : FitsSigned w64 (c.args.v +ℤ c.args.bias +ℤ c.tie.result) =
    omega (
      arith,
      ints,
      c.requires.small.low,
      c.requires.small.high,
      c.requires.bias.0,
      c.requires.bias.1,
      c.tie.ensures.low,
      c.tie.ensures.high,
    ) in
    let f = to_z-of_z w64 (c.args.v +ℤ c.args.bias) first in
    let s = to_z-of_z w64 (c.args.v +ℤ c.args.bias +ℤ c.tie.result) second in
    let r = to_z-of_z w64 (shr_z (c.args.v +ℤ c.args.bias +ℤ c.tie.result) (2 ^ c.args.down)) (shr-fits (c.args.v +ℤ c.args.bias +ℤ c.tie.result) (2 ^ c.args.down) second) in
    rw (v, b, f, t, s, r) (shifted_modest (c.args.v +ℤ c.args.bias +ℤ c.tie.result) c.args.down (record {
      low = omega (arith, ints, c.requires.small.low, c.requires.bias.0, c.tie.ensures.low);
      high = omega (arith, ints, c.requires.small.high, c.requires.bias.1, c.tie.ensures.high);
    }))
