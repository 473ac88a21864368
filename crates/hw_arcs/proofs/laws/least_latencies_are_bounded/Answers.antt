use Rattle.hw_arcs.proofs.Bounds.{bounded}
use Rattle.hw_arcs.proofs.laws.least_latencies_are_bounded.Goals as goal

pub returns : goal.returns
returns c = bounded
