use Rattle.std.proofs.Common.{arith}
use Rattle.math_num.proofs.Residues.{up-congruent, far-up}
use Rattle.hw_run.proofs.operation.shift_up.Goals as goal

pub returns-then-places-lt128 : goal.returns-then-places-lt128
returns-then-places-lt128 c = up-congruent c.args.v c.args.places c.ranges.v

pub returns-else-places-lt128 : goal.returns-else-places-lt128
returns-else-places-lt128 c = far-up c.args.v c.args.places (omega (arith, c.if-places-lt128.false))
