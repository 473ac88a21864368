use Rattle.hw_sched.proofs.SlotNumbers.{numbered}
use Rattle.hw_sched.proofs.laws.operations_are_numbered.Goals as goal

pub returns : goal.returns
returns c = numbered
