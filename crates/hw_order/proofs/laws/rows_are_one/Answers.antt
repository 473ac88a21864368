use Rattle.hw_order.proofs.Unique.{rows-are-one}
use Rattle.hw_order.proofs.laws.rows_are_one.Goals as goal

pub returns : goal.returns
returns c = rows-are-one
