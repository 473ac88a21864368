use Rattle.std.proofs.Common.{◌≡◌, ◌^◌, ◌*ℤ◌, pos, to_z, of_z}
use Rattle.std.specs.Int.{w128}
use Rattle.std.proofs.lemmas.Int.{to_z-of_z}
use Rattle.dg_blocks.proofs.Products.{one_shifted}
use Rattle.dg_blocks.proofs.exact.left_shift.Goals as goal

pub overflow_mul-result : goal.overflow_mul-result
overflow_mul-result c =
    let e = one_shifted c.args.gap c.if-gap-lt127.true in
    let k : to_z w128 (of_z w128 c.args.v) ≡ c.args.v = to_z-of_z w128 c.args.v c.ranges.v in
    rw (k, e) c.requires

pub returns-then-gap-lt127 : goal.returns-then-gap-lt127
returns-then-gap-lt127 c =
    let e = one_shifted c.args.gap c.if-gap-lt127.true in
    let k : to_z w128 (of_z w128 c.args.v) ≡ c.args.v = to_z-of_z w128 c.args.v c.ranges.v in
    rw (k, e) (to_z-of_z w128 (c.args.v *ℤ pos (2 ^ c.args.gap)) c.requires)
