use Rattle.std.proofs.Common.{[], ◌++◌, drop, map}
use Rattle.dg_model.specs.Attributes.{attributes_of}
use Rattle.dg_model.specs.LatencyEdges.{signal_edge, enable_edges_from}
use Rattle.hw_sched.specs.Answer.{timing_of}
use Rattle.hw_sched.proofs.RegisterCounts.{AreBeside}
use Rattle.hw_sched.proofs.edge_lines.lines_in_all.Given as goal

abbrev pub invariant-loop-edge : goal.invariant-loop-edge
invariant-loop-edge l = AreBeside l.checked.diagram (attributes_of l.checked.diagram) l.plan
    (timing_of l.latencies []) l.lines (map signal_edge (drop l.edge-index l.checked.diagram.edges)
    ++ enable_edges_from 0 l.checked.diagram.blocks)

abbrev pub invariant-loop-place : goal.invariant-loop-place
invariant-loop-place l = AreBeside l.checked.diagram (attributes_of l.checked.diagram) l.plan (timing_of l.latencies []) l.all (enable_edges_from l.place (drop l.place l.checked.diagram.blocks))
