use Rattle.fx_type.proofs.Decimals.{stored_one}
use Rattle.fx_type.proofs.laws.stored_is_one.Goals as goal

pub returns : goal.returns
returns c = stored_one
