use Rattle.fx_round.proofs.Exactly.{rounds_gives_one}
use Rattle.fx_round.proofs.laws.rounding_gives_one.Goals as goal

pub returns : goal.returns
returns c = rounds_gives_one
