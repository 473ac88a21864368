use Rattle.std.proofs.Common.{◌^◌, pos, ◌*ℤ◌, FitsSigned, arith}
use Rattle.std.specs.Int.{w64}
use Rattle.std.proofs.lemmas.Int.{ints}
use Rattle.math_num.proofs.Shifts.{shl_exact}
use Rattle.fx_round.proofs.narrow.shift_up.Goals as goal

pub returns : goal.returns
returns c =
    let fits : FitsSigned w64 (c.args.v *ℤ pos (2 ^ c.args.by)) = omega (arith, ints, c.requires.room.low, c.requires.room.high) in
    shl_exact w64 c.args.v c.args.by c.ranges.v fits
