use Rattle.vl_ast.proofs.Steps.{steps-run}
use Rattle.vl_ast.proofs.laws.steps_run.Goals as goal

pub returns : goal.returns
returns c = steps-run
