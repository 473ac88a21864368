use Rattle.hw_sched.proofs.Roots.{none_into, roots_are_ready}
use Rattle.hw_sched.proofs.laws.root_inputs_are_first.Goals as goal

pub returns-clause-none : goal.returns-clause-none
returns-clause-none c = none_into

pub returns-clause-ready : goal.returns-clause-ready
returns-clause-ready c = roots_are_ready
