use Rattle.std.proofs.Common.{◌<◌, length}
use Rattle.vl_eval.specs.inner.Merge.{AreMerged}
use Rattle.vl_eval.proofs.merging.merge.Given as goal

abbrev pub invariant-loop-number : goal.invariant-loop-number
invariant-loop-number l = record {
  merged : AreMerged l.base l.number l.ops l.code l.places.items;
  some : 0 < length l.buckets.items;
}
