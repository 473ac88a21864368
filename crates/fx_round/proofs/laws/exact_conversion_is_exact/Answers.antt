use Rattle.fx_round.proofs.Orders.{exact_kept}
use Rattle.fx_round.proofs.laws.exact_conversion_is_exact.Goals as goal

pub returns : goal.returns
returns c = exact_kept
