use Rattle.math_num.proofs.Residues.{sum-congruent}
use Rattle.hw_run.proofs.operation.sum.Goals as goal

pub returns : goal.returns
returns c = sum-congruent c.args.a c.args.b c.ranges.a c.ranges.b
