use Rattle.hw_refine.proofs.Drops.{drops}
use Rattle.hw_refine.proofs.laws.drops_refine.Goals as goal

pub returns : goal.returns
returns c = drops
