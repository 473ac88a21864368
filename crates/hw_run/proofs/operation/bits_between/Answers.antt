use Rattle.math_num.proofs.Residues.{between}
use Rattle.hw_run.proofs.operation.bits_between.Goals as goal

pub returns : goal.returns
returns c = between c.args.bits c.args.high c.args.low c.requires.order c.requires.within
