use Rattle.vl_hier.proofs.DesignLayouts.{spelling-spells}
use Rattle.vl_hier.proofs.laws.design_spelling_spells.Goals as goal

pub returns : goal.returns
returns c = λ bytes text design spelled is. spelling-spells bytes text design spelled is
