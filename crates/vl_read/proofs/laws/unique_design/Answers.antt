use Rattle.vl_read.proofs.Scoped.{one_design}
use Rattle.vl_read.proofs.laws.unique_design.Goals as goal

pub returns : goal.returns
returns c = one_design
