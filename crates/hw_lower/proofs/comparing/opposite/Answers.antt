use Rattle.std.proofs.Common.{◌≡◌, Bool, ℤ, pos, ◌-ℤ◌, false, not, ap, subst, ◌∙◌}
use Rattle.math_num.specs.Word.{IsWrapped}
use Rattle.dg_model.specs.Operation.{stored_truth}
use Rattle.math_num.specs.Bits.{truth}
use Rattle.hw_lower.specs.inner.PlanSteps.{of_two}
use Rattle.hw_lower.proofs.StepChains.{made-then}
use Rattle.hw_lower.proofs.Truths.{truth-is, not-truth}
use Rattle.hw_lower.proofs.comparing.opposite.Goals as goal

pub inverse-requires-clause-at : goal.inverse-requires-clause-at
inverse-requires-clause-at c = c.binary-bit.ensures.at

pub inverse-requires-clause-word : goal.inverse-requires-clause-word
inverse-requires-clause-word c = c.binary-bit.ensures.has_word ∙ c.bit_word.ensures

pub returns : goal.returns
returns c =
    made-then (λ numbers. (told : Bool) → of_two c.args.op numbers c.args.one c.args.other ≡ truth told
    → numbers c.inverse.result.place ≡ stored_truth (not told))
    (rw c.bit_word.ensures at c.binary-bit.ensures) c.inverse.ensures
    (λ numbers has later p q told is.
    let bit : numbers c.binary-bit.result.place ≡ stored_truth told =
    truth-is told (numbers c.binary-bit.result.place)
    (subst (λ (z : ℤ). IsWrapped z 1 false (numbers c.binary-bit.result.place)) is p) in
    q ∙ ap (λ (z : ℤ). pos 1 -ℤ z) bit ∙ not-truth told)
