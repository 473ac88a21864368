use Rattle.std.proofs.Common.{◌≡◌, ◌<◌, ◌≤◌, List, Some, slice_get, length, get_or, sym, ap, subst, ◌∙◌, arith}
use Rattle.std.proofs.lemmas.Option.{slice_get-get_or}
use Rattle.dg_model.specs.declared.diagram.Block.{Block}
use Rattle.dg_model.specs.declared.diagram.Diagram.{Diagram}
use Rattle.dg_model.specs.declared.diagram.Edge.{Edge}
use Rattle.dg_sort.proofs.Lines.{from_there, to_there}
use Rattle.hw_latency.proofs.ArcLists.{control_put, line_put, lines_listed, listing_begins, listing_ends}
use Rattle.hw_latency.proofs.arcs.arcs_of.Goals as goal

pub loop-edge-init : goal.loop-edge-init
loop-edge-init c = listing_begins c.args.checked.now.diagram c.args.plan.now c.args.fed.now c.new-arcs.result.items c.new-arcs.ensures.items

pub put_arc-requires : goal.put_arc-requires
put_arc-requires c =
    let diagram : Diagram = c.args.checked.now.diagram in
    let edge : Edge = get_or c.as_slice-edges.result.now c.loop-edge.edge-index (record { from = 0; from_port = 0; to = 0; to_port = 0 }) in
    let at : slice_get diagram.edges c.loop-edge.edge-index ≡ Some edge =
    ap (λ (es : List Edge). slice_get es c.loop-edge.edge-index) (sym (c.as_slice-edges.ensures ∙ ap (λ (d : Diagram). d.edges) c.diagram-diagram.ensures))
    ∙ slice_get-get_or c.as_slice-edges.result.now c.loop-edge.edge-index (record { from = 0; from_port = 0; to = 0; to_port = 0 }) c.loop-edge-test.true in
    record {
      plan = c.requires.plan;
      fed = c.requires.fed;
      from = from_there diagram c.loop-edge.edge-index edge c.keeps_rules.ensures.checked.wired at;
      to = to_there diagram c.loop-edge.edge-index edge c.keeps_rules.ensures.checked.wired at;
    }

pub put_control-requires : goal.put_control-requires
put_control-requires c = record {
  plan = c.requires.plan;
  fed = c.requires.fed;
  there = subst (λ (bs : List Block). c.loop-place.place < length bs) (c.as_slice-blocks.ensures ∙ ap (λ (d : Diagram). d.blocks) c.diagram-diagram.ensures) c.loop-place-test.true;
}

pub loop-edge-preserved : goal.loop-edge-preserved
loop-edge-preserved c =
    line_put c.args.checked.now.diagram c.args.plan.now c.args.fed.now c.loop-edge.arcs.items
    c.put_arc.new.arcs.items c.loop-edge.edge-index c.as_slice-edges.result.now
    (record { from = 0; from_port = 0; to = 0; to_port = 0 })
    c.keeps_rules.ensures.checked.wired (c.as_slice-edges.ensures ∙ ap (λ (d : Diagram). d.edges) c.diagram-diagram.ensures) c.loop-edge-test.true c.in_ok-put_arc.ensures c.loop-edge.invariant

pub loop-place-init : goal.loop-place-init
loop-place-init c =
    lines_listed c.args.checked.now.diagram c.args.plan.now c.args.fed.now c.loop-edge.arcs.items c.loop-edge.edge-index
    (subst (λ (es : List Edge). length es ≤ c.loop-edge.edge-index) (c.as_slice-edges.ensures ∙ ap (λ (d : Diagram). d.edges) c.diagram-diagram.ensures) c.loop-edge-test.false) c.loop-edge.invariant

pub loop-place-preserved : goal.loop-place-preserved
loop-place-preserved c =
    control_put c.args.checked.now.diagram c.args.plan.now c.args.fed.now c.loop-place.arcs.items c.put_control.new.arcs.items c.loop-place.place c.keeps_rules.ensures.checked.wired
    (subst (λ (bs : List Block). c.loop-place.place < length bs)
    (c.as_slice-blocks.ensures ∙ ap (λ (d : Diagram). d.blocks) c.diagram-diagram.ensures)
    c.loop-place-test.true) c.in_ok-put_control.ensures c.loop-place.invariant

pub returns-clause-is : goal.returns-clause-is
returns-clause-is c =
    listing_ends c.args.checked.now.diagram c.args.plan.now c.args.fed.now c.loop-place.arcs.items c.loop-place.place
    (subst (λ (bs : List Block). length bs ≤ c.loop-place.place) (c.as_slice-blocks.ensures ∙ ap (λ (d : Diagram). d.blocks) c.diagram-diagram.ensures) c.loop-place-test.false) c.loop-place.invariant

pub returns-clause-known : goal.returns-clause-known
returns-clause-known c = c.loop-place.invariant.known

pub overflow_cast-place : goal.overflow_cast-place
overflow_cast-place c =
    let blocks : length c.as_slice-blocks.result.now ≡ length c.args.checked.now.diagram.blocks =
    ap (λ (bs : List Block). length bs)
    (c.as_slice-blocks.ensures ∙ ap (λ (d : Diagram). d.blocks) c.diagram-diagram.ensures) in
    record { fits = omega (arith, blocks, c.loop-place-test.true, c.keeps_rules.ensures.checked.wired.size) }
