use Rattle.vl_eval.specs.inner.Steps.{AreConstants}
use Rattle.vl_eval.proofs.code.constants.Given as goal

abbrev pub invariant-loop-number : goal.invariant-loop-number
invariant-loop-number l = AreConstants l.number l.ops
