use Rattle.hw_plain.proofs.Plain.{break-storage}
use Rattle.hw_plain.proofs.laws.plain_plans_break_storage.Goals as goal

pub returns : goal.returns
returns c = break-storage c.gaining_cycles_leave_none.ensures c.periods_are_above.ensures.above c.edges_join_periods.ensures c.unfed_are_ready.ensures
