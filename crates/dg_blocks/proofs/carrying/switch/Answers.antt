use Rattle.std.proofs.Common.{◌≡◌, cond, FitsSigned, to_z, of_z, refl, arith, rules}
use Rattle.std.specs.Int.{w64, w128}
use Rattle.std.proofs.lemmas.Int.{ints, to_z-of_z}
use Rattle.dg_model.specs.Operation.{operation_of, meets, value_of}
use Rattle.dg_blocks.proofs.Outputs.{chosen_fits, chosen_room, chosen_gives}
use Rattle.dg_blocks.proofs.carrying.switch.Goals as goal

pub short-v-requires : goal.short-v-requires
short-v-requires c =
    let own = to_z-of_z w128 c.switch_input.result (record { sfits = c.switch_input.type_inv }) in
    rw own (chosen_fits (operation_of c.args.call.now) c.args.inputs.now c.requires.can c.args.narrow c.requires.prepared _ c.switch_input.result c.switch_input.ensures)

pub convert-requires-clause-room : goal.convert-requires-clause-room
convert-requires-clause-room c =
    let own = to_z-of_z w128 c.switch_input.result (record { sfits = c.switch_input.type_inv }) in
    let short = to_z-of_z w64 c.short-v.result (record { sfits = c.short-v.type_inv }) in
    let same : c.short-v.result ≡ c.switch_input.result = rw own at c.short-v.ensures in
    rw (short, same) (chosen_room (operation_of c.args.call.now) c.args.inputs.now c.requires.can c.args.narrow c.requires.prepared _ c.switch_input.result c.switch_input.ensures)

pub returns : goal.returns
returns c =
    let own = to_z-of_z w128 c.switch_input.result (record { sfits = c.switch_input.type_inv }) in
    let short = to_z-of_z w64 c.short-v.result (record { sfits = c.short-v.type_inv }) in
    let same : c.short-v.result ≡ c.switch_input.result = rw own at c.short-v.ensures in
    let fits : FitsSigned w128 c.in-Switch.threshold = search rules in
    let threshold = to_z-of_z w128 c.in-Switch.threshold fits in
    let taken : c.switch_input.result ≡ cond
    (meets c.in-Switch.criterion c.in-Switch.threshold (value_of c.args.inputs.now 1))
    (value_of c.args.inputs.now 0) (value_of c.args.inputs.now 2) =
    rw threshold at c.switch_input.ensures in
    let n : FitsSigned w64 c.convert.result = record { sfits = c.convert.type_inv } in
    let r : to_z w128 (of_z w128 c.from.result) ≡ c.convert.result = omega (arith, ints, c.from.ensures, n) in
    rw r (chosen_gives (operation_of c.args.call.now) c.args.inputs.now c.requires.can c.args.narrow
    c.requires.prepared c.args.call.now.op refl c.in-Switch.criterion c.in-Switch.threshold c.convert.result
    c.in-Switch.is
    (λ from narrow. rw (short, same, taken) at (c.convert.ensures from c.args.call.now.result c.args.call.now.rounding c.args.call.now.saturate narrow)))
