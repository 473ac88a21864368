use Rattle.hw_latency.proofs.Bounds.{small_latencies}
use Rattle.hw_latency.proofs.laws.latencies_are_small.Goals as goal

pub returns : goal.returns
returns c = small_latencies c.least_latencies_are_bounded.ensures
