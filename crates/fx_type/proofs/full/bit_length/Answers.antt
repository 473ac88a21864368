use Rattle.std.proofs.Common.{arith}
use Rattle.std.proofs.lemmas.Int.{ints}
-- A power of two that is above v is above the greatest that is not.
use Rattle.fx_type.proofs.Narrow.{least_length}
use Rattle.fx_type.proofs.full.bit_length.Goals as goal

pub returns-else-v-eq0-clause-least : goal.returns-else-v-eq0-clause-least
returns-else-v-eq0-clause-least c k h = least_length c.args.v c.ilog2.result k c.ilog2.ensures.power_le h

pub overflow_add-result : goal.overflow_add-result
overflow_add-result c = omega (arith, ints)

pub overflow_cast-result : goal.overflow_cast-result
overflow_cast-result c = omega (arith, ints)
