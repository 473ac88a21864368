use Rattle.std.proofs.Common.{◌∙◌}
use Rattle.std.specs.Int.{w128}
use Rattle.std.proofs.lemmas.Int.{to_z-of_z}
use Rattle.fx_round.proofs.Bias.{clamped}
use Rattle.fx_round.proofs.settle.nearest.Goals as goal

pub returns : goal.returns
returns c frac =
    rw (to_z-of_z w128 c.clamp.result (record { sfits = c.clamp.type_inv })) (clamped c.args.width c.args.signed frac c.args.r _ _ c.clamp.result c.requires
    (to_z-of_z w128 c.highest-highest.result (record { sfits = c.highest-highest.type_inv }) ∙ c.highest-highest.ensures)
    (to_z-of_z w128 c.lowest.result (record { sfits = c.lowest.type_inv }) ∙ c.lowest.ensures)
    (rw (to_z-of_z w128 c.args.r c.ranges.r) at c.clamp.ensures.value))
