use Rattle.std.proofs.Common.{ℕ, ◌<◌, ◌≡◌, Some, slice_get}
use Rattle.hw_net.specs.declared.netlist.NetLabel.{NetLabel}
use Rattle.hw_fold.specs.inner.Pins.{IsPinned, KeepsMarks}
use Rattle.hw_fold.proofs.pinned.pin.Given as goal

abbrev pub invariant-loop-label : goal.invariant-loop-label
invariant-loop-label l = record {
  own : KeepsMarks l.fn.own l.own;
  alone : KeepsMarks l.fn.alone l.alone;
  pinned : (j : ℕ) (label : NetLabel) → j < l.label-index → slice_get l.labels j ≡ Some label → IsPinned l.nets l.own l.alone label.net;
}
