use Rattle.std.proofs.Common.{◌-◌, ◌^◌, ◌-ℤ◌}
use Rattle.std.specs.Int.{w64}
use Rattle.std.specs.Int.Signed.{shr_z}
use Rattle.std.proofs.lemmas.Int.{to_z-of_z}
use Rattle.math_num.proofs.Arithmetic.{double}
use Rattle.math_num.proofs.Shifts.{shr-fits}
use Rattle.fx_round.proofs.Bias.{shift_floors, halves_floor, half_fits}
use Rattle.fx_round.proofs.narrow.floor_past_half.Goals as goal

pub overflow_sub-result : goal.overflow_sub-result
overflow_sub-result c =
    let unit = 2 ^ (c.args.by - 1) in
    let halves = shr_z c.args.v unit in
    let v = to_z-of_z w64 c.args.v c.ranges.v in
    let fit = shr-fits w64 c.args.v unit c.ranges.v in
    let lower = to_z-of_z w64 (shr_z halves 2) (shr-fits w64 halves 2 fit) in
    rw (v, to_z-of_z w64 halves fit, lower) (half_fits halves (shr_z halves 2) fit (shift_floors halves 1))

pub returns : goal.returns
returns c half e =
    let unit = 2 ^ (c.args.by - 1) in
    let halves = shr_z c.args.v unit in
    let lower = shr_z halves 2 in
    let v = to_z-of_z w64 c.args.v c.ranges.v in
    let fit = shr-fits w64 c.args.v unit c.ranges.v in
    let l = to_z-of_z w64 lower (shr-fits w64 halves 2 fit) in
    let r = to_z-of_z w64 (halves -ℤ lower) (half_fits halves lower fit (shift_floors halves 1)) in
    rw (v, to_z-of_z w64 halves fit, l, r)
    (halves_floor c.args.v halves lower unit (2 ^ c.args.by) (double c.args.by c.requires.some) (shift_floors c.args.v (c.args.by - 1)) (shift_floors halves 1) half e)
