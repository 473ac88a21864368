use Rattle.hw_sched.proofs.Readiness.{ready_rises, operands_are_ready}
use Rattle.hw_sched.proofs.laws.ready_rises.Goals as goal

pub returns-clause-outputs : goal.returns-clause-outputs
returns-clause-outputs c = ready_rises

pub returns-clause-operands : goal.returns-clause-operands
returns-clause-operands c = operands_are_ready
