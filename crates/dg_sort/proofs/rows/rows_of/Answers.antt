use Rattle.std.proofs.Common.{◌≤◌, [], true, false, length, replicate, get_or, sym, ap, subst, ◌∙◌, arith}
use Rattle.dg_model.specs.LatencyEdges.{enable_edges_from}
use Rattle.dg_model.proofs.Propagation.{length_periods}
use Rattle.dg_sort.proofs.Lines.{from_there, to_there}
use Rattle.dg_sort.proofs.EdgeRows.{edge_read, block_read, instant_as, noting_begins, line_more, line_skips, lines_end, control_more, control_skips, controls_end}
use Rattle.dg_sort.proofs.rows.rows_of.Goals.{then-is_instant+in_ok-push_at, else-is_instant, in-Some+in_ok-push_at-2, in_default}
use Rattle.dg_sort.proofs.rows.rows_of.Goals as goal

pub is_instant-requires-clause-from : goal.is_instant-requires-clause-from
is_instant-requires-clause-from c =
    let at = edge_read c.args.diagram.now c.as_slice-edge-items.result.now c.loop-edge.edge-index
    (record { from = 0; from_port = 0; to = 0; to_port = 0 }) c.as_slice-edge-items.ensures
    c.loop-edge-test.true in
    let inside = from_there c.args.diagram.now c.loop-edge.edge-index _ c.requires.wired at in
    let many = ap length c.requires.periods ∙ length_periods c.args.diagram.now in
    omega (arith, inside, many)

pub is_instant-requires-clause-to : goal.is_instant-requires-clause-to
is_instant-requires-clause-to c =
    let at = edge_read c.args.diagram.now c.as_slice-edge-items.result.now c.loop-edge.edge-index
    (record { from = 0; from_port = 0; to = 0; to_port = 0 }) c.as_slice-edge-items.ensures
    c.loop-edge-test.true in
    let inside = to_there c.args.diagram.now c.loop-edge.edge-index _ c.requires.wired at in
    let blocks = ap length c.as_slice-blocks.ensures in
    omega (arith, inside, blocks)

pub is_instant-requires-clause-timed : goal.is_instant-requires-clause-timed
is_instant-requires-clause-timed c = ap length c.requires.periods ∙ length_periods c.args.diagram.now ∙ sym (ap length c.as_slice-blocks.ensures)

pub push_at-requires : goal.push_at-requires
push_at-requires c =
    let at = edge_read c.args.diagram.now c.as_slice-edge-items.result.now c.loop-edge.edge-index
    (record { from = 0; from_port = 0; to = 0; to_port = 0 }) c.as_slice-edge-items.ensures
    c.loop-edge-test.true in
    let inside = to_there c.args.diagram.now c.loop-edge.edge-index _ c.requires.wired at in
    let size = c.loop-edge.invariant.size in
    omega (arith, inside, size)

pub loop-edge-init : goal.loop-edge-init
loop-edge-init c = noting_begins c.args.diagram.now c.in_ok-rows.rows.items (c.in_ok-rows.ensures ∙ ap (λ bs. replicate (length bs) []) c.as_slice-blocks.ensures)

pub loop-edge-preserved : goal.loop-edge-preserved
loop-edge-preserved c =
    let at = edge_read c.args.diagram.now c.as_slice-edge-items.result.now c.loop-edge.edge-index
    (record { from = 0; from_port = 0; to = 0; to_port = 0 }) c.as_slice-edge-items.ensures
    c.loop-edge-test.true in
    elim c.if-is_instant.branch [
      | then-is_instant+in_ok-push_at w ↦
          let now = instant_as c.args.diagram.now c.as_slice-blocks.result.now c.args.periods.now
          (get_or c.as_slice-edge-items.result.now c.loop-edge.edge-index
          (record { from = 0; from_port = 0; to = 0; to_port = 0 })) c.is_instant.result true
          c.as_slice-blocks.ensures c.requires.periods c.is_instant.ensures w.if-is_instant.true in
          rw (w.rows-is, w.in_ok-push_at.ensures)
          (line_more c.args.diagram.now c.loop-edge.edge-index
          (get_or c.as_slice-edge-items.result.now c.loop-edge.edge-index
          (record { from = 0; from_port = 0; to = 0; to_port = 0 }))
          (enable_edges_from 0 c.args.diagram.now.blocks) c.loop-edge.rows.items c.requires.wired at now
          c.loop-edge.invariant)
      | else-is_instant w ↦
          let still = instant_as c.args.diagram.now c.as_slice-blocks.result.now c.args.periods.now
          (get_or c.as_slice-edge-items.result.now c.loop-edge.edge-index
          (record { from = 0; from_port = 0; to = 0; to_port = 0 })) c.is_instant.result false
          c.as_slice-blocks.ensures c.requires.periods c.is_instant.ensures w.if-is_instant.false in
          rw w.rows-is
          (line_skips c.args.diagram.now c.loop-edge.edge-index
          (get_or c.as_slice-edge-items.result.now c.loop-edge.edge-index
          (record { from = 0; from_port = 0; to = 0; to_port = 0 }))
          (enable_edges_from 0 c.args.diagram.now.blocks) c.loop-edge.rows.items c.requires.wired at
          still c.loop-edge.invariant)
    ]

pub loop-place-init : goal.loop-place-init
loop-place-init c =
    let end = subst (λ es. length es ≤ c.loop-edge.edge-index) c.as_slice-edge-items.ensures c.loop-edge-test.false in
    lines_end c.args.diagram.now c.loop-edge.edge-index (enable_edges_from 0 c.args.diagram.now.blocks) c.loop-edge.rows.items end c.loop-edge.invariant

pub loop-place-preserved : goal.loop-place-preserved
loop-place-preserved c =
    let at = block_read c.args.diagram.now c.as_slice-blocks.result.now c.loop-place.place c.index-blocks-place.result c.as_slice-blocks.ensures c.loop-place-test.true c.index-blocks-place.is in
    elim c.match-control_now.branch [
      | in-Some+in_ok-push_at-2 w ↦
          rw (w.rows-is, w.in_ok-push_at-2.ensures)
          (control_more c.args.diagram.now c.loop-place.place w.in-Some.control c.index-blocks-place.result
          c.control_now.result c.loop-place.rows.items c.requires.wired at c.control_now.ensures w.in-Some.is
          c.loop-place.invariant)
      | in_default w ↦
          rw w.rows-is
          (control_skips c.args.diagram.now c.loop-place.place c.index-blocks-place.result c.control_now.result
          c.loop-place.rows.items c.requires.wired at c.control_now.ensures w.in_default.is
          c.loop-place.invariant)
    ]

pub returns : goal.returns
returns c =
    let end = subst (λ bs. length bs ≤ c.loop-place.place) c.as_slice-blocks.ensures c.loop-place-test.false in
    controls_end c.args.diagram.now c.loop-place.place c.loop-place.rows.items end c.loop-place.invariant
