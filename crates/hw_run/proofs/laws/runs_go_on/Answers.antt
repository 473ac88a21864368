use Rattle.hw_run.proofs.At.{runs-go-on}
use Rattle.hw_run.proofs.laws.runs_go_on.Goals as goal

pub returns : goal.returns
returns c = runs-go-on
