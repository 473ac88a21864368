use Rattle.std.proofs.Common.{◌≡◌, ◌-◌, ◌^◌, pos, ◌+ℤ◌, FitsSigned, bit_and, to_z, of_z, arith}
use Rattle.std.specs.Int.{w128}
use Rattle.std.specs.Int.Signed.{shr_z}
use Rattle.std.proofs.lemmas.Int.{ints, to_z-of_z, to_z_pos}
use Rattle.math_num.proofs.Arithmetic.{double}
use Rattle.math_num.proofs.Shifts.{shr-fits, shr-divided}
use Rattle.fx_round.proofs.Halves.{nearest_by}
use Rattle.fx_round.proofs.Shifts.{near_split, near_room}
use Rattle.fx_round.proofs.split.nearest.Goals as goal

pub returns : goal.returns
returns c =
    let half = 2 ^ (c.args.by - 1) in
    let halves = shr_z c.args.v half in
    let lower = shr_z halves 2 in
    let bit = bit_and (of_z w128 halves) 1 in
    let v = to_z-of_z w128 c.args.v c.ranges.v in
    let halves_fit = shr-fits w128 c.args.v half c.ranges.v in
    let h = to_z-of_z w128 halves halves_fit in
    let lower_fit = shr-fits w128 halves 2 halves_fit in
    let l = to_z-of_z w128 lower lower_fit in
    let parts = near_split halves 1 (omega arith) halves_fit in
    let room = near_room halves 1 (omega arith) halves_fit in
    let b : to_z w128 bit ≡ pos bit = to_z_pos w128 bit (omega (arith, parts.0)) in
    let sum : FitsSigned w128 (lower +ℤ pos bit) = omega (arith, ints, parts.0, room, lower_fit) in
    rw (v, h, l, b, to_z-of_z w128 (lower +ℤ pos bit) sum)
    (nearest_by c.args.v half (2 ^ c.args.by) bit halves lower (double c.args.by c.requires.some) (shr-divided c.args.v (c.args.by - 1)) parts.1 parts.0)
