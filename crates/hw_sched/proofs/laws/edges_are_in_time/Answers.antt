use Rattle.hw_sched.proofs.InTime.{edges_are_in_time}
use Rattle.hw_sched.proofs.laws.edges_are_in_time.Goals as goal

pub returns : goal.returns
returns c = edges_are_in_time
