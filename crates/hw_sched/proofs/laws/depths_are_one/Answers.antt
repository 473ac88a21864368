use Rattle.hw_sched.proofs.DepthLaw.{depths_are_one}
use Rattle.hw_sched.proofs.laws.depths_are_one.Goals as goal

pub returns : goal.returns
returns c = depths_are_one
