use Rattle.std.proofs.Common.{◌^◌, pos, negsuc, ◌-ℤ◌, ◌≤ℤ◌, FitsSigned, arith}
use Rattle.std.specs.Int.{w64}
use Rattle.std.specs.Int.Signed.{shr_z}
use Rattle.std.proofs.lemmas.Int.{ints, to_z-of_z}
use Rattle.math_num.proofs.Shifts.{shr-fits}
use Rattle.fx_round.proofs.Bias.{shift_floors, opposite_up, parts_above}
use Rattle.fx_round.proofs.narrow.ceiling_of.Goals as goal

pub returns : goal.returns
returns c =
    let v = to_z-of_z w64 c.args.v c.ranges.v in
    let opposite = pos 0 -ℤ c.args.v in
    let fits : FitsSigned w64 opposite = omega (arith, ints, c.requires.low, c.ranges.v) in
    let low : negsuc 9223372036854775806 ≤ℤ opposite = omega (arith, ints, c.ranges.v) in
    let floor = shr_z opposite (2 ^ c.args.by) in
    let floor_fits = shr-fits w64 opposite (2 ^ c.args.by) fits in
    let up_fits : FitsSigned w64 (pos 0 -ℤ floor) = omega (arith, ints, floor_fits, parts_above opposite c.args.by low) in
    rw (v, to_z-of_z w64 opposite fits, to_z-of_z w64 floor floor_fits, to_z-of_z w64 (pos 0 -ℤ floor) up_fits)
    (opposite_up c.args.v floor (2 ^ c.args.by) (shift_floors opposite c.args.by))
