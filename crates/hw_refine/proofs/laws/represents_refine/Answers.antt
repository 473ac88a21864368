use Rattle.hw_refine.proofs.Represents.{represents}
use Rattle.hw_refine.proofs.laws.represents_refine.Goals as goal

pub returns : goal.returns
returns c = represents
