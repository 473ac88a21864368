use Rattle.std.proofs.Common.{FitsSigned, rules}
use Rattle.std.specs.Int.{w64}
use Rattle.std.proofs.lemmas.Int.{to_z-of_z}
use Rattle.dg_blocks.proofs.NarrowWords.{cut_is}
use Rattle.dg_blocks.proofs.narrow.Narrow.wrapped.Goals as goal

pub overflow_sub-result : goal.overflow_sub-result
overflow_sub-result c =
    let ends = c.requires.ends.2 in
    let low : FitsSigned w64 c.args.self.low = search rules in
    let is = cut_is c.requires.ends.0 c.args.r ends.valid ends.number ends.width_below c.requires.modest in
    rw (to_z-of_z w64 c.args.r c.ranges.r, to_z-of_z w64 c.args.self.low low, ends.low_is) is.above

pub overflow_sub-result-2 : goal.overflow_sub-result-2
overflow_sub-result-2 c =
    let ends = c.requires.ends.2 in
    let low : FitsSigned w64 c.args.self.low = search rules in
    let high : FitsSigned w64 c.args.self.high = search rules in
    let is = cut_is c.requires.ends.0 c.args.r ends.valid ends.number ends.width_below c.requires.modest in
    rw (to_z-of_z w64 c.args.self.high high, to_z-of_z w64 c.args.self.low low, ends.low_is, ends.high_is) is.mask

pub overflow_add-result : goal.overflow_add-result
overflow_add-result c =
    let ends = c.requires.ends.2 in
    let low : FitsSigned w64 c.args.self.low = search rules in
    let high : FitsSigned w64 c.args.self.high = search rules in
    let is = cut_is c.requires.ends.0 c.args.r ends.valid ends.number ends.width_below c.requires.modest in
    rw (to_z-of_z w64 c.args.r c.ranges.r, to_z-of_z w64 c.args.self.high high, to_z-of_z w64 c.args.self.low low, ends.low_is, ends.high_is, is.whole) is.fits

pub returns : goal.returns
returns c to saturate ends =
    let low : FitsSigned w64 c.args.self.low = search rules in
    let high : FitsSigned w64 c.args.self.high = search rules in
    let is = cut_is to c.args.r ends.valid ends.number ends.width_below c.requires.modest in
    rw (to_z-of_z w64 c.args.r c.ranges.r, to_z-of_z w64 c.args.self.high high, to_z-of_z w64 c.args.self.low low, ends.low_is, ends.high_is, is.whole, to_z-of_z w64 _ is.fits) is.settles
