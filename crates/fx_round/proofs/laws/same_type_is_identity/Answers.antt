use Rattle.fx_round.proofs.Orders.{same_identity}
use Rattle.fx_round.proofs.laws.same_type_is_identity.Goals as goal

pub returns : goal.returns
returns c = same_identity
