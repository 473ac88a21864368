use Rattle.std.proofs.Common.{◌≡◌, ◌<◌, ℕ, true, slice_get, Some}
use Rattle.hw_net.specs.declared.netlist.Net.{Net}
use Rattle.hw_trim.specs.inner.Marks.{is_marked, multiplies, Marks}
use Rattle.hw_trim.proofs.marking.mark_products.Given as goal

abbrev pub invariant-loop-k : goal.invariant-loop-k
invariant-loop-k l = record {
  marks : Marks l.fn.marks l.marks l.fn.order.items l.order.items;
  marked : (j : ℕ) (net : Net) → j < l.k → slice_get l.nets j ≡ Some net → multiplies net.kind ≡ true → is_marked l.marks j ≡ true;
}
