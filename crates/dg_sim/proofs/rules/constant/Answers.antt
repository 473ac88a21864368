use Rattle.std.proofs.Common.{FitsSigned}
use Rattle.std.specs.Int.{w128}
use Rattle.std.proofs.lemmas.Int.{to_z-of_z}
use Rattle.dg_model.specs.Attributes.{attributes_of}
use Rattle.dg_sim.proofs.ByKind.{constant_always}
use Rattle.dg_sim.proofs.Growth.{fixed_made}
use Rattle.dg_sim.proofs.ListEntries.{constant_entry}
use Rattle.dg_sim.proofs.rules.constant.Goals as goal

pub own_stored-value-requires-clause-there : goal.own_stored-value-requires-clause-there
own_stored-value-requires-clause-there c = c.requires.turn.shown.block_is

pub returns : goal.returns
returns c =
    let diagram = c.args.turn.checked.now.diagram in
    let stores = c.own_stored-value.ensures in
    let fits : FitsSigned w128 c.own_stored-value.result = record { sfits = c.own_stored-value.type_inv } in
    rw (to_z-of_z w128 c.own_stored-value.result fits) (fixed_made diagram (attributes_of diagram) c.args.program.now c.args.turn.cell c.args.turn.place c.own_stored-value.result
    (constant_always diagram (attributes_of diagram) c.args.turn.place c.args.turn.block.now c.requires.turn.shown.block_is c.args.value.now c.own_stored-value.result c.requires.kind stores))

pub own_stored-value-requires-clause-entry : goal.own_stored-value-requires-clause-entry
own_stored-value-requires-clause-entry c =
    constant_entry c.args.turn.checked.now.diagram c.requires.turn.rules.checked c.args.turn.place.block
    c.args.turn.place.port c.args.turn.place.element c.args.turn.block.now c.requires.turn.shown
    c.args.value.now c.requires.kind
