use Rattle.laws_convolved.proofs.Flattened.{filters_flat}
use Rattle.laws_convolved.proofs.laws.filters_are_flat.Goals as goal

pub returns : goal.returns
returns c = filters_flat c.blocks_are_counted.ensures
