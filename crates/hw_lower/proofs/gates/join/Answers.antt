use Rattle.std.proofs.Common.{pos, ◌-ℤ◌, ◌∙◌}
use Rattle.hw_lower.specs.inner.PlanSteps.{IsChosen}
use Rattle.hw_lower.proofs.PlanSteps.{at-later}
use Rattle.hw_lower.proofs.StepChains.{made-then}
use Rattle.hw_lower.proofs.gates.join.Goals as goal

pub choose-requires-clause-test : goal.choose-requires-clause-test
choose-requires-clause-test c = at-later _ _ c.args.test c.truth-one.ensures.grows c.requires.test

pub choose-requires-clause-other : goal.choose-requires-clause-other
choose-requires-clause-other c = at-later _ _ c.args.bit c.truth-one.ensures.grows c.requires.bit

pub choose-requires-in-Odd-clause-test : goal.choose-requires-in-Odd-clause-test
choose-requires-in-Odd-clause-test c = at-later _ _ c.args.test c.inverse-other.ensures.grows c.requires.test

pub choose-requires-in-Odd-clause-other : goal.choose-requires-in-Odd-clause-other
choose-requires-in-Odd-clause-other c = at-later _ _ c.args.bit c.inverse-other.ensures.grows c.requires.bit

pub returns-in-Any : goal.returns-in-Any
returns-in-Any c =
    rw c.in-Any.is
    (made-then (λ numbers. IsChosen (numbers c.args.test.place) (pos 1) (numbers c.args.bit.place) (numbers c.choose.result.place)) c.truth-one.ensures (rw c.bit_word.ensures at c.choose.ensures)
    (λ numbers has later p q. record { zero = q.zero; any = λ h. q.any h ∙ p.one h }))

pub returns-in-Odd : goal.returns-in-Odd
returns-in-Odd c =
    rw c.in-Odd.is
    (made-then (λ numbers. IsChosen (numbers c.args.test.place) (pos 1 -ℤ numbers c.args.bit.place)
    (numbers c.args.bit.place) (numbers c.choose-in-Odd.result.place)) c.inverse-other.ensures
    (rw c.bit_word-in-Odd.ensures at c.choose-in-Odd.ensures)
    (λ numbers has later p q. record { zero = q.zero; any = λ h. q.any h ∙ p }))
