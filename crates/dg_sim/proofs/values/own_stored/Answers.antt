use Rattle.std.proofs.Common.{sym, subst, FitsSigned}
use Rattle.std.specs.Int.{w128}
use Rattle.std.proofs.lemmas.Int.{to_z-of_z}
use Rattle.std.proofs.lemmas.Option.{slice_get_within}
use Rattle.fx_type.specs.FxType.{IsType}
use Rattle.fx_type.specs.declared.kind.FxType.{FxType}
use Rattle.dg_model.specs.Equation.{StoresEntry}
use Rattle.dg_sim.proofs.values.own_stored.Goals as goal

pub stored_entry-requires-clause-kind : goal.stored_entry-requires-clause-kind
stored_entry-requires-clause-kind c =
    let checked = c.args.turn.checked.now in
    let valid = c.operations_prepare.ensures.types checked.diagram checked.order c.args.turn.place.block
    c.args.turn.block.now (record {
      checked = c.keeps_rules.ensures.checked;
      ordered =
          c.keeps_rules.ensures.ordered;
    }) c.requires.there in
    subst IsType (sym (c.result.ensures 1)) valid.0

pub stored_entry-requires-clause-entry : goal.stored_entry-requires-clause-entry
stored_entry-requires-clause-entry c = c.requires.entry

pub result-requires : goal.result-requires
result-requires c = slice_get_within c.args.turn.checked.now.diagram.blocks c.args.turn.place.block c.args.turn.block.now c.requires.there

pub returns : goal.returns
returns c =
    let fits : FitsSigned w128 c.stored_entry.result = record { sfits = c.stored_entry.type_inv } in
    rw (to_z-of_z w128 c.stored_entry.result fits)
    (subst (λ (kind : FxType). StoresEntry c.args.list.now c.args.turn.place.element kind c.stored_entry.result)
    (c.result.ensures 1) c.stored_entry.ensures)
