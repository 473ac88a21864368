use Rattle.std.proofs.Common.{◌≡◌, take}
use Rattle.dg_model.specs.Operation.{stored_truth}
use Rattle.hw_lower.specs.inner.PlanSteps.{IsMade, bit_word}
use Rattle.hw_lower.specs.inner.Spread.{OfArguments, truth_of}
use Rattle.hw_lower.proofs.gates.join_all.Given as goal

abbrev pub invariant-loop-input : goal.invariant-loop-input
invariant-loop-input l = IsMade l.fn.plan l.plan bit_word (λ numbers. OfArguments l.types numbers (λ values. numbers l.bit.place ≡ stored_truth (truth_of l.joining (take l.input values)))) l.bit
