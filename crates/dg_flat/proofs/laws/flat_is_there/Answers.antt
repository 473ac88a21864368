use Rattle.dg_flat.proofs.SomeFlat.{some_flat}
use Rattle.dg_flat.proofs.laws.flat_is_there.Goals as goal

pub returns : goal.returns
returns c = some_flat
