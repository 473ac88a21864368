use Rattle.mdl_values.proofs.OneValue.{one_value}
use Rattle.mdl_values.proofs.laws.values_are_one.Goals as goal

pub returns : goal.returns
returns c = one_value
