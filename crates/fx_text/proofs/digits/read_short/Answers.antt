use Rattle.std.proofs.Common.{arith}
use Rattle.fx_text.proofs.DigitLemmas.{below_power}
use Rattle.fx_text.proofs.digits.read_short.Goals as goal

pub overflow_mul-value : goal.overflow_mul-value
overflow_mul-value c = omega (arith, below_power c.loop-digit.value c.loop-digit.digit-index 17 c.loop-digit.invariant.small (omega arith))

pub overflow_add-value : goal.overflow_add-value
overflow_add-value c = omega (arith, below_power c.loop-digit.value c.loop-digit.digit-index 17 c.loop-digit.invariant.small (omega arith))
