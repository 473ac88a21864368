use Rattle.tests_premises.proofs.Neighbours.{are_not_owed}
use Rattle.tests_premises.proofs.laws.neighbours_are_not_owed.Goals as goal

pub returns : goal.returns
returns c = are_not_owed
