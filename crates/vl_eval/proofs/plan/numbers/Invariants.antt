use Rattle.vl_eval.specs.inner.PlanOperations.{AreNumbers}
use Rattle.vl_eval.proofs.plan.numbers.Given as goal

abbrev pub invariant-loop-number : goal.invariant-loop-number
invariant-loop-number l = AreNumbers l.number l.numbers.items
