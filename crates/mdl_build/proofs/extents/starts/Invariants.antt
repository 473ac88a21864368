use Rattle.std.proofs.Common.{◌≡◌, ◌+◌, ◌++◌, drop}
use Rattle.mdl_build.specs.Extents.{starts, total}
use Rattle.mdl_build.proofs.extents.starts.Given as goal

abbrev pub invariant-loop-extent : goal.invariant-loop-extent
invariant-loop-extent l = record {
  whole : l.all + total (drop l.extent-index l.extents) ≡ total l.extents;
  numbers : l.numbers.items ++ starts l.all (drop l.extent-index l.extents) ≡ starts 0 l.extents;
}
