use Rattle.std.proofs.Common.{◌≡◌, FitsSigned, to_z, of_z, arith, rules}
use Rattle.std.specs.Int.{w64, int_max, int_min}
use Rattle.std.proofs.lemmas.Int.{ints, clamps}
use Rattle.dg_blocks.proofs.NarrowWords.{nearest_settles, ordered}
use Rattle.dg_blocks.proofs.narrow.Narrow.nearest.Goals as goal

pub returns : goal.returns
returns c to saturate ends =
    let low : FitsSigned w64 c.args.self.low = search rules in
    let high : FitsSigned w64 c.args.self.high = search rules in
    let least : to_z w64 (of_z w64 c.max.result) ≡ int_max c.args.r c.args.self.low = omega (arith, ints, clamps, c.max.ensures.value, low, c.ranges.r) in
    let most : to_z w64 (of_z w64 c.min.result) ≡ int_min (int_max c.args.r c.args.self.low) c.args.self.high = omega (arith, ints, clamps, c.min.ensures.value, least, low, high, c.ranges.r) in
    rw (most, ends.low_is, ends.high_is) (nearest_settles to c.args.r (ordered to ends.valid))
