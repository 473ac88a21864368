use Rattle.std.proofs.Common.{◌*◌, ◌^◌, ◌≤◌, arith, mul-le-mul_right, pow_mono}
use Rattle.dg_types.proofs.typed_fit.shifted_up.Goals as goal

pub returns-else-by-lt128 : goal.returns-else-by-lt128
returns-else-by-lt128 c =
    let few : 128 ≤ c.args.by = omega arith in
    let p : 2 ^ 128 ≤ 2 ^ c.args.by = pow_mono few in
    let m : 1 * 2 ^ c.args.by ≤ c.args.number * 2 ^ c.args.by = mul-le-mul_right (2 ^ c.args.by) c.requires in
    omega (arith, p, m)
