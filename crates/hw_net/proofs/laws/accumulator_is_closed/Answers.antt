use Rattle.hw_net.proofs.Accumulator.{acc-closed}
use Rattle.hw_net.proofs.laws.accumulator_is_closed.Goals as goal

pub returns : goal.returns
returns c = acc-closed
