use Rattle.hw_sched.proofs.Rates.{edges_join_periods}
use Rattle.hw_sched.proofs.laws.edges_join_periods.Goals as goal

pub returns : goal.returns
returns c = edges_join_periods
