use Rattle.math_num.proofs.Residues.{kept-congruent}
use Rattle.hw_run.proofs.operation.identity.Goals as goal

pub returns : goal.returns
returns c = kept-congruent c.args.v c.ranges.v
