use Rattle.dg_flat.proofs.One.{one_flat}
use Rattle.dg_flat.proofs.laws.flat_is_one.Goals as goal

pub returns : goal.returns
returns c = one_flat
