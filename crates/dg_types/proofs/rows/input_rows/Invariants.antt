use Rattle.std.proofs.Common.{length, take}
use Rattle.dg_types.specs.inner.Build.{Gathered}
use Rattle.dg_types.specs.inner.Rows.{width_of_edge}
use Rattle.dg_types.proofs.rows.input_rows.Given as goal

abbrev pub invariant-loop-edge : goal.invariant-loop-edge
invariant-loop-edge l = Gathered (length l.widths) (width_of_edge l.widths) (take l.edge-index l.edges) l.rows.items
