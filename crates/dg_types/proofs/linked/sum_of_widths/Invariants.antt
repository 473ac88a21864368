use Rattle.std.proofs.Common.{◌≡◌, ◌+◌, ◌≤◌, drop, min, sum}
use Rattle.dg_types.specs.inner.Widths.{source_widths}
use Rattle.dg_types.proofs.linked.sum_of_widths.Given as goal

abbrev pub invariant-loop-source : goal.invariant-loop-source
invariant-loop-source l = record {
  left : min 1025 (l.together + sum (source_widths l.values (drop l.source-index l.sources))) ≡ min 1025 (sum (source_widths l.values l.sources));
  small : l.together ≤ 1025;
}
