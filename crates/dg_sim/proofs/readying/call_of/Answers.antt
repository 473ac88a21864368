use Rattle.std.proofs.Common.{◌≡◌, ◌+◌, ◌-◌, refl, arith}
use Rattle.dg_sim.proofs.readying.call_of.Goals as goal

pub returns : goal.returns
returns c =
    let work = c.args.work in
    let signs : work.first_sign + work.signs - work.first_sign ≡ work.signs = omega arith in
    let count : work.first + work.count - work.first ≡ work.count = omega arith in
    rw (c.as_slice.ensures, c.as_slice-2.ensures, signs, count) refl
