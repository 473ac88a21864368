use Rattle.fx_type.proofs.Functions.{full_sum_one}
use Rattle.fx_type.proofs.laws.full_sum_is_one.Goals as goal

pub returns : goal.returns
returns c = full_sum_one
