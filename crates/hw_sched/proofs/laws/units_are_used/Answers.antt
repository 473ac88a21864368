use Rattle.hw_sched.proofs.Used.{units_are_used}
use Rattle.hw_sched.proofs.laws.units_are_used.Goals as goal

pub returns : goal.returns
returns c = units_are_used
