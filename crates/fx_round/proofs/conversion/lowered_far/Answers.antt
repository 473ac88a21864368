use Rattle.std.specs.Int.{w128}
use Rattle.std.proofs.lemmas.Int.{to_z-of_z}
use Rattle.fx_round.proofs.conversion.lowered_far.Goals as goal

pub returns-then-saturate : goal.returns-then-saturate
returns-then-saturate c frac =
    let r = to_z-of_z w128 c.saturated_far.result (record { sfits = c.saturated_far.type_inv }) in
    rw (c.if-saturate.true, r) (rw (to_z-of_z w128 c.args.v c.ranges.v) at (c.saturated_far.ensures frac))

pub returns-else-saturate : goal.returns-else-saturate
returns-else-saturate c frac =
    let r = to_z-of_z w128 c.wrapped_far.result (record { sfits = c.wrapped_far.type_inv }) in
    rw (c.if-saturate.false, r) (rw (to_z-of_z w128 c.args.v c.ranges.v) at (c.wrapped_far.ensures frac))
