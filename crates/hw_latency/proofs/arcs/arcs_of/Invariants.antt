use Rattle.std.proofs.Common.{◌++◌, drop, map}
use Rattle.dg_model.specs.LatencyEdges.{signal_edge, enable_edges_from}
use Rattle.hw_latency.proofs.ArcLists.{IsListing}
use Rattle.hw_latency.proofs.arcs.arcs_of.Given as goal

abbrev pub invariant-loop-edge : goal.invariant-loop-edge
invariant-loop-edge l = IsListing l.checked.diagram l.plan l.fed l.arcs.items (map signal_edge (drop l.edge-index l.checked.diagram.edges) ++ enable_edges_from 0 l.checked.diagram.blocks)

abbrev pub invariant-loop-place : goal.invariant-loop-place
invariant-loop-place l = IsListing l.checked.diagram l.plan l.fed l.arcs.items (enable_edges_from l.place (drop l.place l.checked.diagram.blocks))
