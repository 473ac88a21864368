use Rattle.hw_renumber.proofs.Sound.{renumbered-emits}
use Rattle.hw_renumber.proofs.laws.renumbered_emits.Goals as goal

pub returns : goal.returns
returns c = renumbered-emits
