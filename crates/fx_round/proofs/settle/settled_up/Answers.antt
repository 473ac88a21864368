use Rattle.std.proofs.Common.{arith}
use Rattle.std.specs.Int.{w128}
use Rattle.std.proofs.lemmas.Int.{to_z-of_z}
use Rattle.fx_round.proofs.Congruence.{shift_wrapped, zero_wrapped}
use Rattle.math_num.proofs.Words.{word-width}
use Rattle.fx_round.proofs.settle.settled_up.Goals as goal

pub returns-then-by-lt128 : goal.returns-then-by-lt128
returns-then-by-lt128 c frac =
    let e = to_z-of_z w128 c.residue.result (record { sfits = c.residue.type_inv }) in
    let h = word-width c.args.width c.args.signed c.requires in
    rw (c.if-saturate.false, e) (shift_wrapped c.args.v c.args.by c.args.width c.args.signed c.residue.result h c.ranges.v c.residue.ensures)

pub returns-else-by-lt128 : goal.returns-else-by-lt128
returns-else-by-lt128 c frac =
    let h = word-width c.args.width c.args.signed c.requires in
    rw c.if-saturate.false (zero_wrapped c.args.v c.args.by c.args.width c.args.signed (omega (arith, c.if-by-lt128.false)))

pub returns-then-saturate : goal.returns-then-saturate
returns-then-saturate c frac =
    let r = to_z-of_z w128 c.saturated_up.result (record { sfits = c.saturated_up.type_inv }) in
    let settles = rw (to_z-of_z w128 c.args.v c.ranges.v, c.from.ensures) at (c.saturated_up.ensures frac) in
    rw (c.if-saturate.true, r) settles
