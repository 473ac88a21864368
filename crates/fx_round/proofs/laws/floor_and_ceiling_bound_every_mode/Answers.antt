use Rattle.fx_round.proofs.Orders.{floor_least, ceiling_greatest}
use Rattle.fx_round.proofs.laws.floor_and_ceiling_bound_every_mode.Goals as goal

pub returns-clause-floor : goal.returns-clause-floor
returns-clause-floor c = floor_least

pub returns-clause-ceiling : goal.returns-clause-ceiling
returns-clause-ceiling c = ceiling_greatest
