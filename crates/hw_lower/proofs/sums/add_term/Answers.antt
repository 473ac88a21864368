use Rattle.std.proofs.Common.{◌+ℤ◌}
use Rattle.std.specs.Int.{w16}
use Rattle.std.proofs.lemmas.Int.{to_z-of_z}
use Rattle.math_num.specs.Word.{IsWrapped}
use Rattle.fx_type.specs.FxType.{aligned}
use Rattle.fx_type.specs.FullType.{negated_if}
use Rattle.hw_lower.proofs.StepChains.{made-then}
use Rattle.hw_lower.proofs.SumTerms.{wrapped-sum, wrapped-difference}
use Rattle.hw_lower.proofs.PlanSteps.{at-later}
use Rattle.hw_lower.proofs.sums.add_term.Goals as goal

pub returns-then-negative : goal.returns-then-negative
returns-then-negative c =
    let f = to_z-of_z w16 c.args.frac c.ranges.frac in
    let value = rw f at c.align-value.ensures in
    made-then (λ numbers. IsWrapped (numbers c.args.total.place +ℤ negated_if c.args.negative
    (aligned c.args.frac c.args.side.kind (numbers c.args.side.from.place))) c.args.word.width
    c.args.word.signed (numbers c.binary.result.place)) value c.binary.ensures
    (λ numbers has later p q. rw c.if-negative.true
    (wrapped-difference (numbers c.args.total.place)
    (aligned c.args.frac c.args.side.kind (numbers c.args.side.from.place))
    (numbers c.align-value.result.place)
    (numbers c.binary.result.place) c.args.word.width c.args.word.signed p q))

pub returns : goal.returns
returns c =
    let f = to_z-of_z w16 c.args.frac c.ranges.frac in
    let value = rw f at c.align-value.ensures in
    made-then (λ numbers. IsWrapped (numbers c.args.total.place +ℤ negated_if c.args.negative
    (aligned c.args.frac c.args.side.kind (numbers c.args.side.from.place))) c.args.word.width
    c.args.word.signed (numbers c.binary-2.result.place)) value c.binary-2.ensures
    (λ numbers has later p q. rw c.if-negative.false
    (wrapped-sum (numbers c.args.total.place)
    (aligned c.args.frac c.args.side.kind (numbers c.args.side.from.place))
    (numbers c.align-value.result.place)
    (numbers c.binary-2.result.place) c.args.word.width c.args.word.signed p q))

pub binary-requires-clause-one : goal.binary-requires-clause-one
binary-requires-clause-one c = at-later _ _ c.args.total c.align-value.ensures.grows c.requires.total

pub binary-requires-clause-other : goal.binary-requires-clause-other
binary-requires-clause-other c = c.align-value.ensures.at

pub binary-requires-2-clause-one : goal.binary-requires-2-clause-one
binary-requires-2-clause-one c = at-later _ _ c.args.total c.align-value.ensures.grows c.requires.total

pub binary-requires-2-clause-other : goal.binary-requires-2-clause-other
binary-requires-2-clause-other c = c.align-value.ensures.at

pub align-value-requires : goal.align-value-requires
align-value-requires c = rw (to_z-of_z w16 c.args.frac c.ranges.frac) c.requires.can

pub binary-requires-clause-word : goal.binary-requires-clause-word
binary-requires-clause-word c = c.requires.can.word

pub binary-requires-2-clause-word : goal.binary-requires-2-clause-word
binary-requires-2-clause-word c = c.requires.can.word
