use Rattle.std.proofs.Common.{◌≡◌, ◌≤◌, ◌*◌, sum, take}
use Rattle.dg_flat.specs.inner.Tables.{IsTable}
use Rattle.dg_flat.proofs.rows.Rows.of.Given as goal

abbrev pub invariant-loop-length : goal.invariant-loop-length
invariant-loop-length l = record {
  few : l.cells ≤ 4294967295 * l.length-index;
  cells : l.cells ≡ sum (take l.length-index l.length-items);
  starts : IsTable l.length-index (λ row. sum (take row l.length-items)) l.starts.items;
}
