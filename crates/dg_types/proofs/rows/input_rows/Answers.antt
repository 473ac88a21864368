use Rattle.std.proofs.Common.{List, length, take, get_or, subst, arith}
use Rattle.std.proofs.lemmas.List.{take_all, take_more}
use Rattle.dg_model.specs.declared.diagram.Edge.{Edge}
use Rattle.dg_types.specs.inner.Build.{Gathered}
use Rattle.dg_types.specs.inner.Rows.{width_of_edge}
use Rattle.dg_types.proofs.LinkRows.{gathered_more, gathered_none}
use Rattle.dg_types.proofs.rows.input_rows.Goals as goal

abbrev none : Edge
none = record { from = 0; from_port = 0; to = 0; to_port = 0 }

pub push_at-requires : goal.push_at-requires
push_at-requires c = let there = c.requires.to c.loop-edge.edge-index none c.loop-edge-test.true in omega (arith, there, c.loop-edge.invariant.size)

pub loop-edge-preserved : goal.loop-edge-preserved
loop-edge-preserved c =
    let edges = c.args.edges.now in
    let i = c.loop-edge.edge-index in
    rw (take_more edges i none c.loop-edge-test.true, c.in_ok-push_at.ensures, c.edge_width-width.ensures)
    (gathered_more _ (width_of_edge c.args.widths.now) (take i edges) c.loop-edge.rows.items (get_or edges i none) (c.requires.to i none c.loop-edge-test.true) c.loop-edge.invariant)

pub edge_width-width-requires : goal.edge_width-width-requires
edge_width-width-requires c = c.requires.from c.loop-edge.edge-index none c.loop-edge-test.true

pub loop-edge-init : goal.loop-edge-init
loop-edge-init c = gathered_none _ _ c.in_ok-rows.rows.items c.in_ok-rows.ensures

pub returns : goal.returns
returns c =
    let widths = c.args.widths.now in
    rw c.from_vec.ensures
    (subst (λ (done : List Edge). Gathered (length widths) (width_of_edge widths) done c.loop-edge.rows.items)
    (take_all c.loop-edge.edge-index c.args.edges.now (omega (arith, c.loop-edge-test.false))) c.loop-edge.invariant)
