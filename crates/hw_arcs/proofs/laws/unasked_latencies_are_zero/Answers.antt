use Rattle.hw_arcs.proofs.Zero.{zero_there}
use Rattle.hw_arcs.proofs.laws.unasked_latencies_are_zero.Goals as goal

pub returns : goal.returns
returns c = zero_there
