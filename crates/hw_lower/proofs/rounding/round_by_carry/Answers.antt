use Rattle.std.proofs.Common.{◌≡◌, ◌+ℤ◌, false, subst}
use Rattle.math_num.specs.Word.{InWord}
use Rattle.math_num.specs.Bits.{shifted_down}
use Rattle.hw_lower.specs.declared.plan.Word.{Word}
use Rattle.hw_lower.proofs.StepChains.{made-then}
use Rattle.math_num.proofs.Words.{wrapped-is}
use Rattle.hw_lower.proofs.Modes.{bit-cases, carried-in-word}
use Rattle.hw_lower.proofs.PlanSteps.{at-later}
use Rattle.hw_lower.proofs.rounding.round_by_carry.Goals as goal

pub returns : goal.returns
returns c =
    made-then (λ numbers. numbers c.binary.result.place ≡ shifted_down (numbers c.args.from.place) c.args.by +ℤ numbers c.args.carry.place) c.down-below.ensures c.binary.ensures
    (λ numbers has later p q.
    let bit : InWord 1 false (numbers c.args.carry.place) = subst (λ (w : Word). InWord w.width w.signed (numbers c.args.carry.place)) c.requires.bit (has c.args.carry c.requires.one) in
    wrapped-is (shifted_down (numbers c.args.from.place) c.args.by +ℤ numbers c.args.carry.place) c.args.from.word.width c.args.from.word.signed (numbers c.binary.result.place) c.requires.at.valid
    (carried-in-word c.args.from.word.width c.args.from.word.signed (numbers c.args.from.place) c.args.by
    (numbers c.args.carry.place) c.requires.at.valid (has c.args.from c.requires.at) c.requires.some
    (bit-cases (numbers c.args.carry.place) bit))
    (rw p at q))

pub binary-requires-clause-one : goal.binary-requires-clause-one
binary-requires-clause-one c = c.down-below.ensures.at

pub binary-requires-clause-other : goal.binary-requires-clause-other
binary-requires-clause-other c = at-later _ _ c.args.carry c.down-below.ensures.grows c.requires.one

pub binary-requires-clause-word : goal.binary-requires-clause-word
binary-requires-clause-word c = c.requires.at.valid
