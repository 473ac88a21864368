use Rattle.dg_model.specs.Attributes.{attributes_of}
use Rattle.dg_tables.proofs.Widths.{widths_fit}
use Rattle.dg_tables.proofs.Sources.{control_shown}
use Rattle.dg_sim.proofs.memories.control_cell.Goals as goal

pub look_up-requires-clause-entry : goal.look_up-requires-clause-entry
look_up-requires-clause-entry c =
    let checked = c.args.turn.checked.now in
    control_shown checked.diagram (attributes_of checked.diagram) c.requires.turn.rules.checked.wired
    (λ block b at. widths_fit checked.diagram c.requires.turn.rules.checked.wired c.requires.turn.rules.checked.dimensions block b at)
    c.args.turn.place.block c.args.turn.block.now c.args.enable c.requires.turn.shown.block_is c.requires.enable

pub look_up-requires-clause-finds : goal.look_up-requires-clause-finds
look_up-requires-clause-finds c = rw c.as_slice.ensures c.requires.turn.finds
