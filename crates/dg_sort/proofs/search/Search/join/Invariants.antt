use Rattle.std.proofs.Common.{◌≡◌, ℕ, ◌<◌, Some, length}
use Rattle.std.specs.Prelude.{slice_get}
use Rattle.dg_sort.specs.declared.search.Group.{Group}
use Rattle.dg_sort.proofs.search.Search.join.Given as goal

abbrev pub invariant-loop-last : goal.invariant-loop-last
invariant-loop-last l = record {
  inside : l.last < length l.self.groups.items;
  above : (k : ℕ) (group : Group) → l.last < k → slice_get l.self.groups.items k ≡ Some group → l.place < group.start;
}

abbrev pub decreases-loop-last : goal.decreases-loop-last
decreases-loop-last l = l.last
