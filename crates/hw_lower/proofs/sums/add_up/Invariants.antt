use Rattle.hw_lower.specs.inner.PlanSteps.{IsMade}
use Rattle.hw_lower.proofs.SumTerms.{IsTotal}
use Rattle.hw_lower.proofs.sums.add_up.Given as goal

abbrev pub invariant-loop-input : goal.invariant-loop-input
invariant-loop-input l = IsMade l.fn.plan l.plan l.word
    (λ numbers. IsTotal l.frac l.signs l.types l.word.width l.word.signed numbers l.input (numbers l.total.place)) l.total
