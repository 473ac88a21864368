use Rattle.std.proofs.Common.{◌++◌, drop, map}
use Rattle.dg_model.specs.LatencyEdges.{signal_edge, enable_edges_from}
use Rattle.dg_sort.proofs.EdgeRows.{Noting}
use Rattle.dg_sort.proofs.rows.rows_of.Given as goal

abbrev pub invariant-loop-edge : goal.invariant-loop-edge
invariant-loop-edge l = Noting l.diagram (map signal_edge (drop l.edge-index l.diagram.edges) ++ enable_edges_from 0 l.diagram.blocks) l.rows.items

abbrev pub invariant-loop-place : goal.invariant-loop-place
invariant-loop-place l = Noting l.diagram (enable_edges_from l.place (drop l.place l.diagram.blocks)) l.rows.items
