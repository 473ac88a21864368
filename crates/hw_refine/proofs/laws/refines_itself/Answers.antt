use Rattle.hw_refine.proofs.Composition.{itself}
use Rattle.hw_refine.proofs.laws.refines_itself.Goals as goal

pub returns : goal.returns
returns c = itself
