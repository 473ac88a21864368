use Rattle.fx_round.proofs.Orders.{rounding_monotone}
use Rattle.fx_round.proofs.laws.rounding_is_monotone.Goals as goal

pub returns : goal.returns
returns c = rounding_monotone
