use Rattle.cmd_sample.proofs.SamplePlan.{plan_good}
use Rattle.cmd_sample.proofs.laws.plan_is_good.Goals as goal

pub returns : goal.returns
returns c = plan_good
