-- An answer of the sorting.
use Rattle.std.specs.Prelude.{ℕ, List}
use Rattle.vl_check.specs.declared.sorting.Sorted.{Sorted}
use Rattle.vl_check.specs.declared.sorting.Sorted.TheVariants.{Order, Cycle}
use Rattle.vl_check.specs.inner.Order.{IsOrder, IsCycle}

abbrev pub IsSorted : List (List ℕ) → Sorted → Type 0
IsSorted reads (Order order) = IsOrder reads order.items
IsSorted reads (Cycle cycle) = IsCycle reads cycle.items
