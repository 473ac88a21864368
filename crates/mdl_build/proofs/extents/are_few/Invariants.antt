use Rattle.std.proofs.Common.{◌≡◌, ◌+◌, ◌≤◌, drop}
use Rattle.mdl_build.specs.Extents.{total}
use Rattle.mdl_build.proofs.extents.are_few.Given as goal

abbrev pub invariant-loop-extent : goal.invariant-loop-extent
invariant-loop-extent l = record {
  whole : l.all + total (drop l.extent-index l.extents) ≡ total l.extents;
  few : l.all ≤ 20000;
}
