use Rattle.hw_sched.proofs.Periods.{periods_are_above, periods_are_short, moving_have_periods}
use Rattle.hw_sched.proofs.laws.periods_are_above.Goals as goal

pub returns-clause-above : goal.returns-clause-above
returns-clause-above c = periods_are_above

pub returns-clause-moving : goal.returns-clause-moving
returns-clause-moving c = moving_have_periods

pub returns-clause-short : goal.returns-clause-short
returns-clause-short c = periods_are_short
