use Rattle.math_num.proofs.Residues.{kept-as, choice}
use Rattle.hw_run.proofs.operation.choice.Goals as goal

pub returns-then-a-eq0 : goal.returns-then-a-eq0
returns-then-a-eq0 c = kept-as c.args.c _ c.ranges.c ((choice c.args.a c.args.b c.args.c c.ranges.a).0 c.if-a-eq0.true)

pub returns-else-a-eq0 : goal.returns-else-a-eq0
returns-else-a-eq0 c = kept-as c.args.b _ c.ranges.b ((choice c.args.a c.args.b c.args.c c.ranges.a).1 c.if-a-eq0.false)
