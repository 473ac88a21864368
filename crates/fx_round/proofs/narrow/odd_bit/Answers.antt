use Rattle.fx_round.proofs.Bias.{odd_bit-is}
use Rattle.fx_round.proofs.narrow.odd_bit.Goals as goal

pub returns : goal.returns
returns c = odd_bit-is c.args.v c.ranges.v
