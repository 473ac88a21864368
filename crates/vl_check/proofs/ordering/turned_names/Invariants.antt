use Rattle.std.proofs.Common.{◌≡◌, ◌<◌, ◌+◌, ◌%◌, ℕ, List, [], length, slice_index, slice_index_or}
use Rattle.vl_check.specs.Scope.{names_in}
use Rattle.vl_check.proofs.ordering.turned_names.Given as goal

abbrev pub invariant-loop-i : goal.invariant-loop-i
invariant-loop-i l = record {
  long : length l.names ≡ l.i;
  each : (k : ℕ) (d : List ℕ) → k < l.i → slice_index_or l.names k d ≡ slice_index_or (names_in l.scope) (slice_index l.cycle ((l.at + k) % length l.cycle)) [];
}
