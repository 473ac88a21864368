use Rattle.math_num.proofs.Residues.{same-congruent}
use Rattle.hw_run.proofs.operation.equal.Goals as goal

pub returns-then-a-b : goal.returns-then-a-b
returns-then-a-b c = (same-congruent c.args.a c.args.b c.ranges.a c.ranges.b).0 c.if-a-b.true

pub returns-else-a-b : goal.returns-else-a-b
returns-else-a-b c = (same-congruent c.args.a c.args.b c.ranges.a c.ranges.b).1 c.if-a-b.false
