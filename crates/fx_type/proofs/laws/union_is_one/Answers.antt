use Rattle.fx_type.proofs.Functions.{union_one}
use Rattle.fx_type.proofs.laws.union_is_one.Goals as goal

pub returns : goal.returns
returns c = union_one
