use Rattle.std.proofs.Common.{◌^◌, ◌≤◌, pos, ◌-ℤ◌, FitsSigned, arith, pow_mono, rules}
use Rattle.std.specs.Int.{w64}
use Rattle.std.proofs.lemmas.Int.{ints, to_z-of_z}
use Rattle.dg_blocks.proofs.NarrowWords.{one_shifted}
use Rattle.dg_blocks.proofs.narrow.Narrow.whole_way.Goals as goal

pub overflow_sub-bits : goal.overflow_sub-bits
overflow_sub-bits c =
    let p : 2 ^ c.args.bits ≤ 2 ^ 61 = pow_mono c.requires in
    rw (one_shifted c.args.bits c.requires) (omega (arith, ints, p))

pub returns-then-self-bits-clause-reaches : goal.returns-then-self-bits-clause-reaches
returns-then-self-bits-clause-reaches c _ =
    let p : 2 ^ c.args.bits ≤ 2 ^ 61 = pow_mono c.requires in
    let low : FitsSigned w64 c.args.self.low = search rules in
    let n : FitsSigned w64 (pos 0 -ℤ pos (2 ^ c.args.bits)) = omega (arith, ints, p) in
    let h = rw (to_z-of_z w64 c.args.self.low low, one_shifted c.args.bits c.requires, to_z-of_z w64 (pos 0 -ℤ pos (2 ^ c.args.bits)) n) at c.if-self-bits.true in
    omega (arith, ints, h)
