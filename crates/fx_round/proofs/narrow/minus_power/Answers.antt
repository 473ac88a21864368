use Rattle.fx_round.proofs.Bias.{minus_shifted}
use Rattle.fx_round.proofs.narrow.minus_power.Goals as goal

pub returns : goal.returns
returns c = minus_shifted c.args.by c.requires.few
