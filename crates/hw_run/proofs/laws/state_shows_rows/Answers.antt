use Rattle.hw_run.proofs.At.{state-shows-rows}
use Rattle.hw_run.proofs.laws.state_shows_rows.Goals as goal

pub returns : goal.returns
returns c = state-shows-rows
