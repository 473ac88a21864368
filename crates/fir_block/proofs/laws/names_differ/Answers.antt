use Rattle.fir_block.proofs.Names.{names_differ}
use Rattle.fir_block.proofs.laws.names_differ.Goals as goal

pub returns : goal.returns
returns c = names_differ
