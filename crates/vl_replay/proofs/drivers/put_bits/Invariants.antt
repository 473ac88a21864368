use Rattle.vl_replay.specs.Sampled.{numbers_of}
use Rattle.vl_replay.specs.inner.Drivers.{AreBits, driver_bits}
use Rattle.vl_replay.proofs.drivers.put_bits.Given as goal

abbrev pub invariant-loop-k : goal.invariant-loop-k
invariant-loop-k l = AreBits (driver_bits (numbers_of l.stimulus) l.stimulus.lines l.sample) l.drivers l.k l.bits
