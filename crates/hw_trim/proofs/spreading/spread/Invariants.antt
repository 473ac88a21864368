use Rattle.std.proofs.Common.{◌≡◌, ◌<◌, ◌≤◌, ◌-◌, ℕ, length, slice_get, slice_index, Some}
use Rattle.hw_net.specs.declared.netlist.Net.{Net}
use Rattle.hw_trim.specs.inner.Marks.{IsServed, Marks}
use Rattle.hw_trim.proofs.spreading.spread.Given as goal

abbrev pub invariant-loop-done : goal.invariant-loop-done
invariant-loop-done l = record {
  marks : Marks l.fn.marks l.marks l.fn.order.items l.order.items;
  served : (i : ℕ) (net : Net) → i < l.done → slice_get l.nets (slice_index l.order.items i) ≡ Some net → IsServed l.nets l.marks net.kind;
  within : l.done ≤ length l.order.items;
}

abbrev pub decreases-loop-done : goal.decreases-loop-done
decreases-loop-done l = length l.nets - l.done
