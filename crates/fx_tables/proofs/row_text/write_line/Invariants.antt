use Rattle.std.proofs.Common.{◌≡◌, ◌*◌, ◌<◌, ◌≤◌, length, drop}
use Rattle.fx_tables.specs.Response.{response_fields}
use Rattle.fx_tables.proofs.ResponseLemmas.{rest_of_line}
use Rattle.fx_tables.proofs.row_text.write_line.Given as goal

abbrev pub invariant-loop-k : goal.invariant-loop-k
invariant-loop-k l = record {
  few : l.k ≤ length l.periods;
  room : l.k * 41 ≤ l.start;
  within : l.start < length l.bytes;
  text : drop l.start l.bytes ≡ rest_of_line l.k (response_fields l.t l.periods l.values);
}

abbrev pub decreases-loop-k : goal.decreases-loop-k
decreases-loop-k l = l.k
