use Rattle.dg_blocks.proofs.Exactly.{at_most_one, exactly_one}
use Rattle.dg_blocks.proofs.laws.operation_gives_one.Goals as goal

pub returns-clause-at_most : goal.returns-clause-at_most
returns-clause-at_most c = at_most_one c.conversion_gives_one.ensures

pub returns-clause-exactly : goal.returns-clause-exactly
returns-clause-exactly c = exactly_one c.conversion_gives_one.ensures
