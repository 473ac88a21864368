use Rattle.vl_read.proofs.Complete.{one_module}
use Rattle.vl_read.proofs.laws.unique.Goals as goal

pub returns : goal.returns
returns c = one_module
