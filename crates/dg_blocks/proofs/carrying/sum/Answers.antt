use Rattle.std.proofs.Common.{◌≡◌, FitsSigned, to_z, of_z, arith}
use Rattle.std.specs.Prelude.{zip}
use Rattle.std.specs.Int.{w16, w64, w128}
use Rattle.std.proofs.lemmas.Int.{ints, to_z-of_z}
use Rattle.dg_model.specs.Operation.{operation_of, signed_sum}
use Rattle.dg_blocks.proofs.Outputs.{summable, sum_frac, sum_room, sum_gives}
use Rattle.dg_blocks.proofs.carrying.sum.Goals as goal

pub signed_sum-total-requires-clause-high : goal.signed_sum-total-requires-clause-high
signed_sum-total-requires-clause-high c =
    let f = to_z-of_z w16 c.args.frac c.ranges.frac in
    rw f (sum_frac (operation_of c.args.call.now) c.args.inputs.now c.requires.can c.args.narrow c.args.frac c.requires.prepared)

pub signed_sum-total-requires-clause-sum : goal.signed_sum-total-requires-clause-sum
signed_sum-total-requires-clause-sum c =
    let f = to_z-of_z w16 c.args.frac c.ranges.frac in
    rw f (summable (operation_of c.args.call.now) c.args.inputs.now c.requires.can c.args.narrow c.args.frac c.requires.prepared)

pub convert-requires-clause-room : goal.convert-requires-clause-room
convert-requires-clause-room c =
    let f = to_z-of_z w16 c.args.frac c.ranges.frac in
    let s = to_z-of_z w64 c.signed_sum-total.result (record { sfits = c.signed_sum-total.type_inv }) in
    let total : c.signed_sum-total.result ≡ signed_sum c.args.frac (zip c.args.call.now.signs.now c.args.call.now.types.now) c.args.inputs.now = rw f at c.signed_sum-total.ensures in
    rw (s, total) (sum_room (operation_of c.args.call.now) c.args.inputs.now c.requires.can c.args.narrow c.args.frac c.requires.prepared)

pub returns : goal.returns
returns c =
    let f = to_z-of_z w16 c.args.frac c.ranges.frac in
    let s = to_z-of_z w64 c.signed_sum-total.result (record { sfits = c.signed_sum-total.type_inv }) in
    let total : c.signed_sum-total.result ≡ signed_sum c.args.frac (zip c.args.call.now.signs.now c.args.call.now.types.now) c.args.inputs.now = rw f at c.signed_sum-total.ensures in
    let n : FitsSigned w64 c.convert.result = record { sfits = c.convert.type_inv } in
    let r : to_z w128 (of_z w128 c.from.result) ≡ c.convert.result = omega (arith, ints, c.from.ensures, n) in
    rw r (sum_gives (operation_of c.args.call.now) c.args.inputs.now c.requires.can c.args.narrow c.args.frac c.requires.prepared c.convert.result
    (λ from narrow. rw (s, total) at (c.convert.ensures from c.args.call.now.result c.args.call.now.rounding c.args.call.now.saturate narrow)))
