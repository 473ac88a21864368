use Rattle.fx_round.proofs.Exactly.{conversion_gives_one}
use Rattle.fx_round.proofs.laws.conversion_gives_one.Goals as goal

pub returns : goal.returns
returns c = conversion_gives_one
