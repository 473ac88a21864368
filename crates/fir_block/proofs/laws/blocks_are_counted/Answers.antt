use Rattle.fir_block.proofs.Counts.{counted}
use Rattle.fir_block.proofs.laws.blocks_are_counted.Goals as goal

pub returns : goal.returns
returns c = counted
