use Rattle.std.proofs.Common.{ℤ, subst, ◌∙◌}
use Rattle.std.specs.Int.{w128}
use Rattle.std.proofs.lemmas.Int.{to_z-of_z}
use Rattle.hw_lower.specs.inner.PlanSteps.{IsChosen}
use Rattle.hw_lower.proofs.PlanSteps.{at-later}
use Rattle.hw_lower.proofs.StepChains.{made-then}
use Rattle.hw_lower.proofs.settling.choose_end.Goals as goal

pub constant-number-requires-clause-word : goal.constant-number-requires-clause-word
constant-number-requires-clause-word c = c.requires.value_at.valid

pub constant-number-requires-clause-value : goal.constant-number-requires-clause-value
constant-number-requires-clause-value c = rw (to_z-of_z w128 c.args.end c.ranges.end) c.requires.fits

pub choose-requires-clause-test : goal.choose-requires-clause-test
choose-requires-clause-test c = at-later _ _ c.args.test c.constant-number.ensures.grows c.requires.at

pub choose-requires-clause-other : goal.choose-requires-clause-other
choose-requires-clause-other c = at-later _ _ c.args.value c.constant-number.ensures.grows c.requires.value_at

pub choose-requires-clause-chosen : goal.choose-requires-clause-chosen
choose-requires-clause-chosen c = c.constant-number.ensures.at

pub choose-requires-clause-fits : goal.choose-requires-clause-fits
choose-requires-clause-fits c = λ numbers none within. within

pub choose-requires-clause-word : goal.choose-requires-clause-word
choose-requires-clause-word c = c.constant-number.ensures.has_word

pub returns : goal.returns
returns c =
    made-then (λ numbers. IsChosen (numbers c.args.test.place) c.args.end (numbers c.args.value.place) (numbers c.choose.result.place)) c.constant-number.ensures c.choose.ensures
    (λ numbers has later p q. subst (λ (z : ℤ). IsChosen (numbers c.args.test.place) z (numbers c.args.value.place) (numbers c.choose.result.place)) (p ∙ to_z-of_z w128 c.args.end c.ranges.end) q)
