use Rattle.math_num.proofs.Residues.{difference-congruent}
use Rattle.hw_run.proofs.operation.difference.Goals as goal

pub returns : goal.returns
returns c = difference-congruent c.args.a c.args.b c.ranges.a c.ranges.b
