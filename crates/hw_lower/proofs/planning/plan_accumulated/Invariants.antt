use Rattle.dg_model.specs.Operation.{operation_of}
use Rattle.hw_lower.specs.inner.PlanSteps.{IsMade, word_of}
use Rattle.hw_lower.specs.inner.Spread.{OfArguments}
use Rattle.hw_lower.proofs.Accumulator.{GoesOn}
use Rattle.hw_lower.proofs.planning.plan_accumulated.Given as goal

abbrev pub invariant-loop-input : goal.invariant-loop-input
invariant-loop-input l = IsMade l.fn.plan l.plan (word_of l.accum)
    (λ numbers. OfArguments l.call.types.now numbers
    (λ values. GoesOn (operation_of l.call) l.accum values l.input (numbers l.total.place))) l.total
