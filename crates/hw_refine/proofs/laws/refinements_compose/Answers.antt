use Rattle.hw_refine.proofs.Composition.{compose}
use Rattle.hw_refine.proofs.laws.refinements_compose.Goals as goal

pub returns : goal.returns
returns c = compose
