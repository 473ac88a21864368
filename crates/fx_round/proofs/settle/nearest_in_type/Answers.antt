use Rattle.std.specs.Int.{w128}
use Rattle.std.proofs.lemmas.Int.{to_z-of_z}
use Rattle.fx_round.proofs.settle.nearest_in_type.Goals as goal

pub returns-in-Num : goal.returns-in-Num
returns-in-Num c =
    let r = to_z-of_z w128 c.nearest.result (record { sfits = c.nearest.type_inv }) in
    let settles = rw (to_z-of_z w128 c.args.r c.ranges.r) at (c.nearest.ensures c.in-Num.frac) in
    rw (c.in-Num.is, r) settles
