use Rattle.fx_round.proofs.Exactly.{storing_gives_one}
use Rattle.fx_round.proofs.laws.storing_gives_one.Goals as goal

pub returns : goal.returns
returns c = storing_gives_one
