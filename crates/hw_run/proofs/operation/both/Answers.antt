use Rattle.math_num.proofs.Residues.{and-congruent}
use Rattle.hw_run.proofs.operation.both.Goals as goal

pub returns : goal.returns
returns c = and-congruent c.args.a c.args.b c.ranges.a c.ranges.b
