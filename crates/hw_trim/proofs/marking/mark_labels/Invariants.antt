use Rattle.std.proofs.Common.{◌≡◌, ◌<◌, ℕ, true, slice_get, Some}
use Rattle.hw_net.specs.declared.netlist.NetLabel.{NetLabel}
use Rattle.hw_trim.specs.inner.Marks.{is_marked, Marks}
use Rattle.hw_trim.proofs.marking.mark_labels.Given as goal

abbrev pub invariant-loop-label : goal.invariant-loop-label
invariant-loop-label l = record {
  marks : Marks l.fn.marks l.marks l.fn.order.items l.order.items;
  marked : (j : ℕ) (label : NetLabel) → j < l.label-index → slice_get l.labels j ≡ Some label → is_marked l.marks label.net ≡ true;
}
