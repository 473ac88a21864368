use Rattle.math_num.proofs.Residues.{xor-congruent}
use Rattle.hw_run.proofs.operation.one_of.Goals as goal

pub returns : goal.returns
returns c = xor-congruent c.args.a c.args.b c.ranges.a c.ranges.b
