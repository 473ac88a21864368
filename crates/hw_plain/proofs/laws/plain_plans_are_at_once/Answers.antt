use Rattle.hw_plain.proofs.Plain.{at-once}
use Rattle.hw_plain.proofs.laws.plain_plans_are_at_once.Goals as goal

pub returns : goal.returns
returns c = at-once c.periods_are_above.ensures.above c.edges_join_periods.ensures c.unfed_are_ready.ensures
