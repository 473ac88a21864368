use Rattle.hw_sched.proofs.Service.{served, have_periods}
use Rattle.hw_sched.proofs.laws.operations_are_served.Goals as goal

pub returns-clause-served : goal.returns-clause-served
returns-clause-served c = served

pub returns-clause-periods : goal.returns-clause-periods
returns-clause-periods c = have_periods
