use Rattle.std.proofs.Common.{◌≡◌, ◌<◌, ◌∙◌, List, length, Some, slice_get, get_or, ap, sym, subst}
use Rattle.std.proofs.lemmas.Option.{slice_get-get_or, slice_get_within}
use Rattle.std.proofs.lemmas.Result.{on_ok_weaker}
use Rattle.dg_model.specs.declared.diagram.Diagram.{Diagram}
use Rattle.dg_model.specs.Attributes.{attributes_of}
use Rattle.dg_tables.specs.declared.entries.Place.{Place}
use Rattle.dg_tables.specs.Entries.{IsEntry}
use Rattle.dg_sim.proofs.Entries.{block_there}
use Rattle.dg_sim.proofs.Cells.{filled_more}
use Rattle.dg_sim.proofs.Turns.{turn_of}
use Rattle.dg_sim.proofs.building.put_cell.Goals as goal
use Rattle.dg_sim.proofs.building.put_cell.Goals.{After-as_slice}

-- the place that is read stands at k, and has an entry
here : (c : After-as_slice) (d : Place) → slice_get c.args.program.now.places c.args.k ≡ Some (get_or c.as_slice.result.now c.args.k d)
here c d =
    let within : c.args.k < length c.as_slice.result.now = subst (λ (xs : List Place). c.args.k < length xs) (sym c.as_slice.ensures) c.requires.there in
    ap (λ (xs : List Place). slice_get xs c.args.k) (sym c.as_slice.ensures) ∙ slice_get-get_or c.as_slice.result.now c.args.k d within

entry : (c : After-as_slice) (d : Place) → IsEntry c.args.checked.now.diagram (attributes_of c.args.checked.now.diagram) (get_or c.as_slice.result.now c.args.k d)
entry c d = c.requires.filled.entries c.args.k (get_or c.as_slice.result.now c.args.k d) (here c d)

pub bounds-as_slice-place : goal.bounds-as_slice-place
bounds-as_slice-place c =
    let its = entry (goal.at.bounds-as_slice-place c).After-as_slice _ in
    let blocks = c.as_slice-2.ensures ∙ ap (λ (d : Diagram). d.blocks) c.diagram.ensures in
    rw blocks (slice_get_within c.args.checked.now.diagram.blocks _ its.0 its.1.block_is)

pub rule_by_kind-requires : goal.rule_by_kind-requires
rule_by_kind-requires c =
    let diagram = c.args.checked.now.diagram in
    let point = (goal.at.rule_by_kind-requires c).After-as_slice in
    let blocks = c.as_slice-2.ensures ∙ ap (λ (d : Diagram). d.blocks) c.diagram.ensures in
    record {
      roots = c.requires.roots;
      turn = turn_of c.args.checked.now c.args.starts.now c.args.program.now.places c.args.k _
          c.index-as_slice-place.result (record {
            checked = c.keeps_rules.ensures.checked;
            ordered =
                c.keeps_rules.ensures.ordered;
          }) c.requires.finds (here point _) (entry point _)
          (block_there diagram (attributes_of diagram) _ c.as_slice-2.result.now c.index-as_slice-place.result blocks (entry point _) c.index-as_slice-place.is);
      entries = c.requires.filled.entries;
      paired = c.requires.filled.paired;
      cursors = c.requires.cursors;
    }

pub period-period-requires : goal.period-period-requires
period-period-requires c =
    let its = entry (goal.at.period-period-requires c).After-as_slice _ in
    slice_get_within c.args.checked.now.diagram.blocks _ its.0 its.1.block_is

pub returns-clause-filled : goal.returns-clause-filled
returns-clause-filled c =
    let diagram = c.args.checked.now.diagram in
    on_ok_weaker c.push.result
    (λ added. filled_more diagram (attributes_of diagram) c.args.program.now c.rule_by_kind.new.program c.args.k _
    c.in_ok-rule.rule c.period-period.result c.push.new.self c.requires.filled
    (here (goal.at.returns-clause-filled c).After-as_slice _) c.in_ok-rule.ensures.made
    c.period-period.ensures added)
    c.push.ensures.appended

pub returns-clause-places : goal.returns-clause-places
returns-clause-places c = on_ok_weaker c.push.result (λ added. c.in_ok-rule.ensures.made.grows.places) c.push.ensures.appended
