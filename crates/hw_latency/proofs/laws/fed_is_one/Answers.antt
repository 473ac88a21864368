use Rattle.hw_latency.proofs.One.{one_mark}
use Rattle.hw_latency.proofs.laws.fed_is_one.Goals as goal

pub returns : goal.returns
returns c = one_mark
