use Rattle.mdl_build.proofs.OneFault.{one_fault}
use Rattle.mdl_build.proofs.laws.fault_is_one.Goals as goal

pub returns : goal.returns
returns c = one_fault c.values_are_one.ensures
