use Rattle.std.proofs.Common.{true, false}
use Rattle.math_num.proofs.Residues.{below-congruent}
use Rattle.hw_run.proofs.operation.less.Goals as goal

pub returns-then-a-b : goal.returns-then-a-b
returns-then-a-b c = below-congruent c.args.a c.args.b true c.ranges.a c.ranges.b c.if-a-b.true

pub returns-else-a-b : goal.returns-else-a-b
returns-else-a-b c = below-congruent c.args.a c.args.b false c.ranges.a c.ranges.b c.if-a-b.false
