use Rattle.tests_premises.proofs.Checks.{checks-tell}
use Rattle.tests_premises.proofs.laws.checks_tell.Goals as goal

pub returns : goal.returns
returns c = checks-tell
