use Rattle.vl_replay.specs.inner.Drivers.{AreBits, reset_bits}
use Rattle.vl_replay.proofs.drivers.put_reset.Given as goal

abbrev pub invariant-loop-k : goal.invariant-loop-k
invariant-loop-k l = AreBits reset_bits l.drivers l.k l.bits
