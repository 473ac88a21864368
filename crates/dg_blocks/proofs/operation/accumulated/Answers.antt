use Rattle.std.proofs.Common.{◌≡◌, ◌<◌, ◌≤◌, suc, ℤ, Bool, false, List, All, length, get_or, to_z, of_z, sym, ap, ◌∙◌, subst, arith, add-one}
use Rattle.std.specs.Prelude.{zip}
use Rattle.std.specs.Int.{w128}
use Rattle.std.proofs.lemmas.Int.{to_z-of_z}
use Rattle.std.proofs.lemmas.Slice.Zip.{length-zip}
use Rattle.fx_type.specs.declared.kind.FxType.{FxType}
use Rattle.fx_type.specs.FullType.{IsFullSum}
use Rattle.fx_type.proofs.Ranges.{InRange-fits}
use Rattle.dg_model.specs.declared.op.Op.{Op}
use Rattle.dg_model.specs.Operation.{HasFullType, HasSigns, HasParameters, Gives, operation_of, type_of, value_of}
use Rattle.dg_blocks.proofs.Steps.{none_added, full_at, one_added, all_added}
use Rattle.dg_blocks.proofs.operation.accumulated.Goals as goal

pub loop-input-init : goal.loop-input-init
loop-input-init c = none_added (operation_of c.args.call.now) c.args.accum c.args.inputs.now

pub step-total-requires-clause-full : goal.step-total-requires-clause-full
step-total-requires-clause-full c =
    let call = c.args.call.now in
    let signs : length call.signs.now ≡ length call.types.now = subst (λ (op : Op). HasSigns op call.signs.now (length call.types.now)) c.requires.is_sum c.requires.can.prepared.signs in
    let full = subst (λ (op : Op). HasFullType op call.signs.now call.types.now) c.requires.is_sum c.requires.can.prepared.full_type in
    full_at c.args.accum call.signs.now call.types.now c.loop-input.input (omega (arith, c.loop-input-test.true, c.requires.can.values.count)) signs full

pub loop-input-preserved : goal.loop-input-preserved
loop-input-preserved c =
    let call = c.args.call.now in
    let i = c.loop-input.input in
    let signs : length call.signs.now ≡ length call.types.now = subst (λ (op : Op). HasSigns op call.signs.now (length call.types.now)) c.requires.is_sum c.requires.can.prepared.signs in
    let inside : i < length call.types.now = omega (arith, c.loop-input-test.true, c.requires.can.values.count) in
    let v = to_z-of_z w128 (value_of c.args.inputs.now i)
    (InRange-fits (type_of call.types.now i) (value_of c.args.inputs.now i)
    (c.requires.can.prepared.types i _ inside) (c.requires.can.values.in_range i inside)) in
    let r = to_z-of_z w128 c.step-total.result (record { sfits = c.step-total.type_inv }) in
    rw r (one_added (operation_of call) c.args.accum c.args.inputs.now i
    (to_z w128 c.loop-input.total-bits) c.step-total.result inside signs c.requires.can.values.count
    c.loop-input.invariant c.step-total.ensures.range
    (rw v at c.step-total.ensures.step))

pub returns : goal.returns
returns c =
    let call = c.args.call.now in
    let r = to_z-of_z w128 c.conversion.result (record { sfits = c.conversion.type_inv }) in
    let added = all_added (operation_of call) c.args.accum c.args.inputs.now c.loop-input.input (to_z w128 c.loop-input.total-bits) c.loop-input-test.false c.loop-input.invariant in
    rw r (subst (λ (op : Op). Gives op (operation_of call) call.types.now c.args.inputs.now c.conversion.result)
    (sym c.requires.is_sum) (to_z w128 c.loop-input.total-bits, added, c.conversion.ensures))
