use Rattle.std.proofs.Common.{◌^◌}
use Rattle.std.specs.Int.{w64}
use Rattle.std.specs.Int.Signed.{shr_z}
use Rattle.std.proofs.lemmas.Int.{to_z-of_z}
use Rattle.math_num.proofs.Shifts.{shr-fits}
use Rattle.fx_round.proofs.Bias.{shift_floors}
use Rattle.fx_round.proofs.narrow.floor_of.Goals as goal

pub returns : goal.returns
returns c =
    let v = to_z-of_z w64 c.args.v c.ranges.v in
    let r = to_z-of_z w64 (shr_z c.args.v (2 ^ c.args.by)) (shr-fits w64 c.args.v (2 ^ c.args.by) c.ranges.v) in
    rw (v, r) (shift_floors c.args.v c.args.by)
