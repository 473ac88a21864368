use Rattle.hw_order.proofs.Exists.{rows-are-there}
use Rattle.hw_order.proofs.laws.rows_are_there.Goals as goal

pub returns : goal.returns
returns c = rows-are-there
