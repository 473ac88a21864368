use Rattle.std.proofs.Common.{◌-◌, ◌^◌, ◌≤◌, arith, pow_pos, pow_mono}
use Rattle.std.proofs.lemmas.Int.{ints}
use Rattle.dg_blocks.proofs.NarrowWords.{one_shifted, half_bounds}
use Rattle.dg_blocks.proofs.narrow.half_of.Goals as goal

pub returns-clause-twice : goal.returns-clause-twice
returns-clause-twice c =
    let e = one_shifted (c.args.down - 1) (omega (arith, c.requires.high)) in
    let h = half_bounds c.args.down c.requires.low c.requires.high in
    rw e (omega (arith, ints, h.0))

pub returns-clause-low : goal.returns-clause-low
returns-clause-low c =
    let e = one_shifted (c.args.down - 1) (omega (arith, c.requires.high)) in
    let p = pow_pos (c.args.down - 1) in
    rw e (omega (arith, ints, p))

pub returns-clause-high : goal.returns-clause-high
returns-clause-high c =
    let e = one_shifted (c.args.down - 1) (omega (arith, c.requires.high)) in
    let k : c.args.down - 1 ≤ 59 = omega (arith, c.requires.high) in
    let p : 2 ^ (c.args.down - 1) ≤ 2 ^ 59 = pow_mono k in
    rw e (omega (arith, ints, p))
