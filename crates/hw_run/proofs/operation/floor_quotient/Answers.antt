use Rattle.std.proofs.Common.{arith}
use Rattle.std.proofs.lemmas.Int.{ints}
use Rattle.math_num.proofs.Residues.{far-down}
use Rattle.hw_run.proofs.operation.floor_quotient.Goals as goal

pub returns-then-v-lt0 : goal.returns-then-v-lt0
returns-then-v-lt0 c = (far-down c.args.v c.args.places c.ranges.v (omega (arith, c.if-places-lt127.false))).0 (omega (arith, ints, c.if-v-lt0.true))

pub returns-else-v-lt0 : goal.returns-else-v-lt0
returns-else-v-lt0 c = (far-down c.args.v c.args.places c.ranges.v (omega (arith, c.if-places-lt127.false))).1 (omega (arith, ints, c.if-v-lt0.false))
