use Rattle.std.proofs.Common.{◌≡◌, ℕ, Some}
use Rattle.std.specs.Prelude.{slice_get}
use Rattle.dg_sort.specs.declared.search.Mark.TheVariants.{Unmet}
use Rattle.dg_sort.specs.inner.Search.{seen}
use Rattle.dg_sort.specs.inner.State.{IsState, work_left}
use Rattle.dg_sort.proofs.search.Search.search_from.Given as goal

abbrev pub invariant-loop-last : goal.invariant-loop-last
invariant-loop-last l = record {
  state : IsState l.rows (seen l.self);
  met : slice_get l.self.marks.items l.root ≡ Some Unmet → ⊥;
  unmet : (block : ℕ) → slice_get l.self.marks.items block ≡ Some Unmet → slice_get l.fn.self.marks.items block ≡ Some Unmet;
}

abbrev pub decreases-loop-last : goal.decreases-loop-last
decreases-loop-last l = work_left l.rows (seen l.self)
