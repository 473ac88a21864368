use Rattle.dg_flat.proofs.FirstOne.{one_broken}
use Rattle.dg_flat.proofs.laws.broken_is_one.Goals as goal

pub returns : goal.returns
returns c = one_broken
