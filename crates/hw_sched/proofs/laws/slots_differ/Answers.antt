use Rattle.hw_sched.proofs.Units.{slots_differ, units_are_there}
use Rattle.hw_sched.proofs.laws.slots_differ.Goals as goal

pub returns-clause-slots : goal.returns-clause-slots
returns-clause-slots c = slots_differ

pub returns-clause-units : goal.returns-clause-units
returns-clause-units c = units_are_there
