use Rattle.math_num.proofs.Residues.{or-congruent}
use Rattle.hw_run.proofs.operation.either.Goals as goal

pub returns : goal.returns
returns c = or-congruent c.args.a c.args.b c.ranges.a c.ranges.b
