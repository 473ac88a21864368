use Rattle.tests_premises.proofs.WholeOwed.{whole_modules_owe}
use Rattle.tests_premises.proofs.laws.whole_modules_owe.Goals as goal

pub returns : goal.returns
returns c = whole_modules_owe
