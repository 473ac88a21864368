use Rattle.std.proofs.Common.{◌≡◌, of_z, ap, ◌∙◌, arith}
use Rattle.std.specs.Int.{w128}
use Rattle.std.proofs.lemmas.Int.{to_z-of_z}
use Rattle.fx_round.proofs.Shifts.{near_split}
use Rattle.fx_round.proofs.settle.low_half.Goals as goal

pub overflow_cast-result : goal.overflow_cast-result
overflow_cast-result c =
    let bits : c.cast_unsigned.result ≡ of_z w128 c.args.r = c.cast_unsigned.ensures ∙ ap (of_z w128) (to_z-of_z w128 c.args.r c.ranges.r) in
    let d = near_split c.args.r 64 (omega arith) c.ranges.r in
    rw (bits, c.from.ensures) (omega (arith, d.0))

pub returns : goal.returns
returns c =
    let bits : c.cast_unsigned.result ≡ of_z w128 c.args.r = c.cast_unsigned.ensures ∙ ap (of_z w128) (to_z-of_z w128 c.args.r c.ranges.r) in
    let d = near_split c.args.r 64 (omega arith) c.ranges.r in
    rw (bits, c.from.ensures) d.1
