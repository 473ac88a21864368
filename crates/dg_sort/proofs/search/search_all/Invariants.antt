use Rattle.std.proofs.Common.{◌≡◌, ℕ, ◌<◌, Some, []}
use Rattle.std.specs.Prelude.{slice_get}
use Rattle.dg_sort.specs.declared.search.Mark.TheVariants.{Unmet}
use Rattle.dg_sort.specs.inner.Search.{seen}
use Rattle.dg_sort.specs.inner.State.{IsState}
use Rattle.dg_sort.proofs.search.search_all.Given as goal

abbrev pub invariant-loop-root : goal.invariant-loop-root
invariant-loop-root l = record {
  state : IsState l.rows (seen l.search);
  free : l.search.groups.items ≡ [];
  met : (block : ℕ) → block < l.root → slice_get l.search.marks.items block ≡ Some Unmet → ⊥;
}
