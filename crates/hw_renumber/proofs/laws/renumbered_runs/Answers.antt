use Rattle.hw_renumber.proofs.Sound.{renumbered-runs}
use Rattle.hw_renumber.proofs.laws.renumbered_runs.Goals as goal

pub returns : goal.returns
returns c = renumbered-runs
