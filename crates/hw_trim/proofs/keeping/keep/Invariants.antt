use Rattle.std.proofs.Common.{◌≡◌}
use Rattle.hw_trim.specs.inner.MarkPlaces.{kept_of, ArePlaces}
use Rattle.hw_trim.proofs.keeping.keep.Given as goal

abbrev pub invariant-loop-k : goal.invariant-loop-k
invariant-loop-k l = record {
  kept : l.kept.items ≡ kept_of l.marks l.k;
  places : ArePlaces l.marks l.places.items l.k;
}
