use Rattle.hw_latency.proofs.Bounds.{unasked_zero}
use Rattle.hw_latency.proofs.laws.unasked_blocks_are_zero.Goals as goal

pub returns : goal.returns
returns c = unasked_zero c.unasked_latencies_are_zero.ensures
