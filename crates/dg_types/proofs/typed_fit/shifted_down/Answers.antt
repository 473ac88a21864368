use Rattle.std.proofs.Common.{◌^◌, ◌<◌, ◌≤◌, arith, sym, pow_mono}
use Rattle.std.proofs.Math.Nat.{div-eq_of_lt}
use Rattle.dg_types.proofs.typed_fit.shifted_down.Goals as goal

pub returns-else-by-lt128 : goal.returns-else-by-lt128
returns-else-by-lt128 c =
    let few : 128 ≤ c.args.by = omega arith in
    let p : 2 ^ 128 ≤ 2 ^ c.args.by = pow_mono few in
    let below : c.args.number < 2 ^ c.args.by = omega (arith, p, c.ranges.number) in
    sym (div-eq_of_lt below)
