use Rattle.std.proofs.Common.{◌≡◌, take}
use Rattle.std.specs.List.{filter_map}
use Rattle.dg_flat.specs.Flat.{edge_of}
use Rattle.dg_flat.proofs.edges.line_edges.Given as goal

abbrev pub invariant-loop-line : goal.invariant-loop-line
invariant-loop-line l = l.edges.items ≡ filter_map (edge_of l.blocks) (take l.line-index l.lines)
