use Rattle.std.proofs.Common.{◌≡◌, ◌^◌, ℤ, pos, ◌*ℤ◌, ◌∙◌, subst}
use Rattle.fx_type.specs.declared.kind.FxType.TheVariants.{Num}
use Rattle.fx_type.specs.Conversion.{Settles}
use Rattle.hw_lower.specs.declared.plan.Word.{Word}
use Rattle.hw_lower.specs.inner.PlanSteps.{IsMade, IsHeldBelow, IsHeldAbove}
use Rattle.hw_lower.proofs.StepChains.{made-both, made-then}
use Rattle.hw_lower.proofs.Ends.{both-held}
use Rattle.hw_lower.proofs.PlanSteps.{at-later}
use Rattle.hw_lower.proofs.settling.settle.Goals as goal

pub returns-then-saturate : goal.returns-then-saturate
returns-then-saturate c =
    let valued = c.shift-value.ensures.has_word in
    let under : c.held_below-below.result.word ≡ c.args.word = c.held_below-below.ensures.has_word ∙ valued in
    let below : IsMade c.shift-value.new.plan c.held_below-below.new.plan c.args.word
    (λ numbers. IsHeldBelow c.args.word (numbers c.args.from.place *ℤ pos (2 ^ c.args.up))
    (numbers c.shift-value.result.place) (numbers c.held_below-below.result.place))
    c.held_below-below.result =
    subst (λ (w : Word). IsMade c.shift-value.new.plan c.held_below-below.new.plan w
    (λ numbers. IsHeldBelow w (numbers c.args.from.place *ℤ pos (2 ^ c.args.up))
    (numbers c.shift-value.result.place) (numbers c.held_below-below.result.place))
    c.held_below-below.result) valued c.held_below-below.ensures in
    let above : IsMade c.held_below-below.new.plan c.held_above.new.plan c.args.word
    (λ numbers. IsHeldAbove c.args.word (numbers c.args.from.place *ℤ pos (2 ^ c.args.up))
    (numbers c.held_below-below.result.place) (numbers c.held_above.result.place)) c.held_above.result =
    subst (λ (w : Word). IsMade c.held_below-below.new.plan c.held_above.new.plan w
    (λ numbers. IsHeldAbove w (numbers c.args.from.place *ℤ pos (2 ^ c.args.up))
    (numbers c.held_below-below.result.place) (numbers c.held_above.result.place)) c.held_above.result)
    under c.held_above.ensures in
    made-then (λ numbers. (frac : ℤ) → Settles (Num c.args.word.signed c.args.word.width frac) c.args.saturate (numbers c.args.from.place *ℤ pos (2 ^ c.args.up)) (numbers c.held_above.result.place))
    (made-both c.shift-value.ensures below) above
    (λ numbers has later p q frac.
    rw c.if-saturate.true (both-held c.args.word frac (numbers c.args.from.place *ℤ pos (2 ^ c.args.up))
    (numbers c.shift-value.result.place) (numbers c.held_below-below.result.place)
    (numbers c.held_above.result.place) c.requires.word p.0 p.1 q))

pub held_below-below-requires-clause-from : goal.held_below-below-requires-clause-from
held_below-below-requires-clause-from c = at-later _ _ c.args.from c.shift-value.ensures.grows c.requires.at

pub held_below-below-requires-clause-value : goal.held_below-below-requires-clause-value
held_below-below-requires-clause-value c = c.shift-value.ensures.at

pub held_above-requires-clause-from : goal.held_above-requires-clause-from
held_above-requires-clause-from c = at-later _ _ c.args.from c.held_below-below.ensures.grows (at-later _ _ c.args.from c.shift-value.ensures.grows c.requires.at)

pub held_above-requires-clause-value : goal.held_above-requires-clause-value
held_above-requires-clause-value c = c.held_below-below.ensures.at
