use Rattle.std.proofs.Common.{◌≡◌}
use Rattle.dg_sort.specs.inner.Cycle.{IsLooking}
use Rattle.fx_io.specs.Rows.{row_at}
use Rattle.dg_sort.proofs.cycle.look.Given as goal

abbrev pub invariant-loop-source : goal.invariant-loop-source
invariant-loop-source l = record {
  looking : IsLooking l.rows l.first l.at l.block l.steps.items l.is_met.items l.source-index;
  row : l.row ≡ row_at l.rows l.block;
}
