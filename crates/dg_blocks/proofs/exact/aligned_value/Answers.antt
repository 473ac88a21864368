use Rattle.std.proofs.Common.{◌≡◌, ◌∙◌}
use Rattle.std.specs.Int.{w16, w128}
use Rattle.std.proofs.lemmas.Int.{to_z-of_z}
use Rattle.fx_type.specs.FxType.{aligned}
use Rattle.dg_blocks.proofs.exact.aligned_value.Goals as goal

pub left_shift-requires : goal.left_shift-requires
left_shift-requires c =
    let f = to_z-of_z w16 c.args.frac c.ranges.frac in
    let v = to_z-of_z w128 c.args.v c.ranges.v in
    rw (c.gap_above.ensures, f, v) c.requires.fits

pub returns : goal.returns
returns c =
    let f = to_z-of_z w16 c.args.frac c.ranges.frac in
    let v = to_z-of_z w128 c.args.v c.ranges.v in
    let is : c.left_shift.result ≡ aligned c.args.frac c.args.kind c.args.v = rw (c.gap_above.ensures, f, v) at c.left_shift.ensures in
    to_z-of_z w128 c.left_shift.result (record { sfits = c.left_shift.type_inv }) ∙ is
