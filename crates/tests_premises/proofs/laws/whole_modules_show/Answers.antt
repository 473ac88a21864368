use Rattle.tests_premises.proofs.WholeWaves.{whole_modules_show}
use Rattle.tests_premises.proofs.laws.whole_modules_show.Goals as goal

pub returns : goal.returns
returns c = whole_modules_show c.one_run.ensures.some
