use Rattle.hw_explore.proofs.Worth.{is_good}
use Rattle.hw_explore.proofs.judging.judge_good.Goals as goal

pub returns : goal.returns
returns c = is_good c.args.checked.now.diagram c.args.plan.now c.args.times c.in_ok-owed.owed c.requires.times c.in_ok-owed.ensures
