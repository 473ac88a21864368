use Rattle.std.proofs.Common.{length, ◌-◌, ◌≡◌, ◌≤◌, take}
use Rattle.fx_io.specs.Sink.{also_took}
use Rattle.fx_io.proofs.sink.put_all.Given as goal

abbrev pub invariant-loop-done : goal.invariant-loop-done
invariant-loop-done g l = record {
  within : l.done ≤ length l.bytes;
  taken : g.K.Sink.taken l.sink ≡ also_took (g.K.Sink.taken l.initial.sink) (take l.done l.bytes);
  faultless : g.K.Sink.faults l.sink ≡ g.K.Sink.faults l.initial.sink;
  unstalled : g.K.Sink.stalls l.sink ≡ g.K.Sink.stalls l.initial.sink;
  later : g.K.Sink.faults l.initial.sink ≤ g.K.Sink.faults l.sink;
}

abbrev pub decreases-loop-done : goal.decreases-loop-done
decreases-loop-done g l = length l.bytes - l.done
