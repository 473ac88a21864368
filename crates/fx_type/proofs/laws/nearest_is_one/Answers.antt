use Rattle.fx_type.proofs.Decimals.{nearest_one}
use Rattle.fx_type.proofs.laws.nearest_is_one.Goals as goal

pub returns : goal.returns
returns c = nearest_one
