use Rattle.dg_flat.proofs.FirstOne.{not_broken}
use Rattle.dg_flat.proofs.laws.flat_is_not_broken.Goals as goal

pub returns : goal.returns
returns c = not_broken
