use Rattle.std.proofs.Common.{◌≡◌, ◌≤◌, subst, arith}
use Rattle.std.specs.Int.{w64, w128}
use Rattle.std.proofs.lemmas.Int.{to_z-of_z}
use Rattle.dg_model.specs.declared.op.Op.{Op}
use Rattle.dg_model.specs.declared.op.Op.TheVariants.{Gain}
use Rattle.dg_model.specs.Operation.{HasParameters}
use Rattle.dg_blocks.specs.Narrow.{magnitude_of}
use Rattle.dg_blocks.proofs.NarrowWords.{range_within, whole_fits}
use Rattle.dg_blocks.proofs.preparing.prepared_gain.Goals as goal

pub short-requires : goal.short-requires
short-requires c =
    let own = to_z-of_z w128 c.args.coefficient c.ranges.coefficient in
    let parameters : HasParameters (Gain c.args.coefficient c.args.param) c.args.call.now.types.now =
    subst (λ (op : Op). HasParameters op c.args.call.now.types.now) c.requires.is_gain
    c.requires.can.parameters in
    let bits : magnitude_of c.args.param ≤ 61 = omega (arith, c.in-Some.ensures.1.bits_below) in
    rw own (whole_fits (magnitude_of c.args.param) c.args.coefficient bits (range_within c.args.param c.args.coefficient parameters.0 parameters.1))

pub returns-in-Some : goal.returns-in-Some
returns-in-Some c =
    let own = to_z-of_z w128 c.args.coefficient c.ranges.coefficient in
    let s = to_z-of_z w64 c.short.result (record { sfits = c.short.type_inv }) in
    let same : c.short.result ≡ c.args.coefficient = rw own at c.short.ensures in
    rw (s, same) (c.args.param, c.requires.is_gain, c.in-Some.ensures)
