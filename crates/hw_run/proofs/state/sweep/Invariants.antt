use Rattle.std.proofs.Common.{◌≡◌, length}
use Rattle.hw_run.specs.State.{row_of}
use Rattle.hw_run.specs.inner.Sweep.{IsSwept}
use Rattle.hw_run.proofs.state.sweep.Given as goal

abbrev pub invariant-loop-place : goal.invariant-loop-place
invariant-loop-place l = record {
  same : l.nets ≡ l.net.nets;
  size : length l.next ≡ length l.net.nets;
  swept : IsSwept l.net.nets l.order l.net.cycles l.clock (row_of l.inputs) (row_of l.now) l.next l.place-index;
}
