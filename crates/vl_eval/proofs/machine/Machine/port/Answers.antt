use Rattle.std.proofs.Common.{arith, ◌∙◌}
use Rattle.std.specs.Int.{w128}
use Rattle.std.proofs.lemmas.Int.{to_z-of_z}
use Rattle.vl_eval.proofs.Outputs.{output-few, output-fits, output-shows, output-signed, slot-below}
use Rattle.vl_eval.proofs.machine.Machine.port.Goals as goal

pub index-bits-requires : goal.index-bits-requires
index-bits-requires c =
    let self = c.args.self.now in
    let ready = c.requires.ready in
    let of = ready.plan_is in
    let b = slot-below c.meaning_by_layer.ensures.value self.source of.sound of.scope of.scope_is self.plan of.plan_is c.args.place c.requires.within c.index.result.now c.index.ensures in
    omega (arith, b, ready.room, self.values.ok.0)

pub number_in-requires-clause-most : goal.number_in-requires-clause-most
number_in-requires-clause-most c =
    let self = c.args.self.now in
    let of = c.requires.ready.plan_is in
    output-few c.meaning_by_layer.ensures.value self.source of.sound of.scope of.scope_is self.plan of.plan_is c.args.place c.requires.within c.index.result.now c.index.ensures

pub number_in-requires-clause-fits : goal.number_in-requires-clause-fits
number_in-requires-clause-fits c =
    let self = c.args.self.now in
    let ready = c.requires.ready in
    let of = ready.plan_is in
    output-fits c.meaning_by_layer.ensures.value self.source of.sound of.scope of.scope_is self.plan of.plan_is c.args.place c.requires.within c.index.result.now c.index.ensures
    self.values.items ready.room c.index-bits.result.now c.index-bits.ensures ready.fits

pub number_in-requires-clause-wide : goal.number_in-requires-clause-wide
number_in-requires-clause-wide c =
    let self = c.args.self.now in
    let of = c.requires.ready.plan_is in
    output-signed c.meaning_by_layer.ensures.value self.source of.sound of.scope of.scope_is self.plan of.plan_is c.args.place c.requires.within c.index.result.now c.index.ensures

pub returns : goal.returns
returns c = λ port e.
    let self = c.args.self.now in
    let ready = c.requires.ready in
    let of = ready.plan_is in
    to_z-of_z w128 c.number_in.result (record { sfits = c.number_in.type_inv }) ∙ c.number_in.ensures
    ∙ output-shows c.meaning_by_layer.ensures.value self.source of.sound of.scope of.scope_is self.plan of.plan_is c.args.place c.requires.within c.index.result.now c.index.ensures
    self.values.items ready.room c.index-bits.result.now c.index-bits.ensures port e
