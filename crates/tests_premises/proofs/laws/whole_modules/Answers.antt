use Rattle.tests_premises.proofs.WholeRuns.{whole_modules_run}
use Rattle.tests_premises.proofs.laws.whole_modules.Goals as goal

pub returns : goal.returns
returns c = whole_modules_run c.one_run.ensures.some
