use Rattle.std.proofs.Common.{false}
use Rattle.std.specs.Int.{w128}
use Rattle.std.proofs.lemmas.Int.{to_z-of_z}
use Rattle.fx_type.specs.declared.kind.FxType.TheVariants.{Num}
use Rattle.fx_type.specs.Conversion.{Settles}
use Rattle.fx_round.proofs.conversion.wrapped_far.Goals as goal

pub returns : goal.returns
returns c frac =
    let q = c.rounded_down.result in
    let rounded = to_z-of_z w128 q (record { sfits = c.rounded_down.type_inv }) in
    let rounds = rw (to_z-of_z w128 c.args.v c.ranges.v, c.from.ensures) at c.rounded_down.ensures in
    let settles : Settles (Num c.args.signed c.args.width frac) false q c.residue.result = rw rounded at c.residue.ensures in
    rw (to_z-of_z w128 c.residue.result (record { sfits = c.residue.type_inv })) (record { rounded = q; rounds = rounds; settles = settles })
