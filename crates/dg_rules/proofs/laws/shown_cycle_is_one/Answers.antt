use Rattle.dg_rules.proofs.OneCycle.{one_cycle}
use Rattle.dg_rules.proofs.laws.shown_cycle_is_one.Goals as goal

pub returns : goal.returns
returns c = one_cycle
