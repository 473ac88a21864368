use Rattle.math_num.proofs.Residues.{inverted-congruent}
use Rattle.hw_run.proofs.operation.complement.Goals as goal

pub returns : goal.returns
returns c = inverted-congruent c.args.a c.ranges.a
