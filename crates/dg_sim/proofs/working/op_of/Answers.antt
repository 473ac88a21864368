use Rattle.std.proofs.Common.{List, sym, subst}
use Rattle.std.proofs.lemmas.Option.{slice_get_within}
use Rattle.fx_type.specs.FxType.{IsType}
use Rattle.fx_type.specs.declared.decimal.Decimal.{Decimal}
use Rattle.dg_sim.specs.inner.Turns.{HasEntry}
use Rattle.dg_sim.proofs.ListEntries.{gain_entry, switch_entry}
use Rattle.dg_sim.proofs.working.op_of.Goals as goal

pub stored_entry-coefficient-requires-clause-kind : goal.stored_entry-coefficient-requires-clause-kind
stored_entry-coefficient-requires-clause-kind c =
    let checked = c.args.turn.checked.now in
    let valid = c.requires.types checked.diagram checked.order c.args.turn.place.block c.args.turn.block.now c.requires.rules c.requires.shown.block_is in
    subst IsType (sym c.param-param.ensures) valid.1

pub stored_entry-coefficient-requires-clause-entry : goal.stored_entry-coefficient-requires-clause-entry
stored_entry-coefficient-requires-clause-entry c =
    subst (λ (list : List Decimal). HasEntry list c.args.turn.place.element) (sym c.as_slice.ensures)
    (gain_entry c.args.turn.checked.now.diagram c.requires.rules.checked c.args.turn.place.block
    c.args.turn.place.port c.args.turn.place.element c.args.turn.block.now c.requires.shown _ _ c.in-Gain.is)

pub stored_entry-threshold-requires-clause-kind : goal.stored_entry-threshold-requires-clause-kind
stored_entry-threshold-requires-clause-kind c =
    let checked = c.args.turn.checked.now in
    let valid = c.requires.types checked.diagram checked.order c.args.turn.place.block c.args.turn.block.now c.requires.rules c.requires.shown.block_is in
    subst IsType (sym c.type_of_input-control.ensures) (valid.2 2)

pub stored_entry-threshold-requires-clause-entry : goal.stored_entry-threshold-requires-clause-entry
stored_entry-threshold-requires-clause-entry c =
    subst (λ (list : List Decimal). HasEntry list c.args.turn.place.element) (sym c.as_slice-in-Switch.ensures)
    (switch_entry c.args.turn.checked.now.diagram c.requires.rules.checked c.args.turn.place.block
    c.args.turn.place.port c.args.turn.place.element c.args.turn.block.now c.requires.shown _ _ c.in-Switch.is)

pub param-param-requires : goal.param-param-requires
param-param-requires c = slice_get_within c.args.turn.checked.now.diagram.blocks c.args.turn.place.block c.args.turn.block.now c.requires.shown.block_is

pub type_of_input-control-requires : goal.type_of_input-control-requires
type_of_input-control-requires c = c.requires.lines
