use Rattle.vl_replay.specs.inner.Drivers.{reset_bits}
use Rattle.vl_replay.proofs.Bits.{bits-more}
use Rattle.vl_replay.proofs.drivers.put_reset.Goals as goal

pub loop-k-preserved : goal.loop-k-preserved
loop-k-preserved c =
    bits-more reset_bits c.args.drivers.now c.loop-k.k c.loop-k.bits c.reset_bits.result c.loop-k-test.true c.loop-k.invariant c.reset_bits.ensures
