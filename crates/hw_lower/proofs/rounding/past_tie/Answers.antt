use Rattle.std.proofs.Common.{◌-◌, subst, arith}
use Rattle.math_num.specs.Bits.{low_bits}
use Rattle.hw_lower.specs.declared.plan.Word.{Word}
use Rattle.hw_lower.specs.inner.PlanSteps.{IsMade, IsPastTie}
use Rattle.hw_lower.proofs.PlanSteps.{at-later}
use Rattle.hw_lower.proofs.StepChains.{made-self, made-then}
use Rattle.hw_lower.proofs.Modes.{no-rest}
use Rattle.hw_lower.proofs.rounding.past_tie.Goals as goal

pub returns-then-by-eq1 : goal.returns-then-by-eq1
returns-then-by-eq1 c =
    subst (λ (w : Word). IsMade c.args.plan.now c.args.plan.now w
    (λ numbers. IsPastTie (low_bits (c.args.by - 1) (numbers c.args.from.place)) (numbers c.args.half.place)
    (numbers c.args.tie.place) (numbers c.args.tie.place)) c.args.tie) c.requires.tie_bit
    (made-self (λ numbers. IsPastTie (low_bits (c.args.by - 1) (numbers c.args.from.place)) (numbers c.args.half.place) (numbers c.args.tie.place) (numbers c.args.tie.place)) c.requires.last
    (λ numbers has. no-rest (c.args.by - 1) (numbers c.args.from.place) (numbers c.args.half.place) (numbers c.args.tie.place) (omega (arith, c.if-by-eq1.true))))

pub choose-requires-clause-chosen : goal.choose-requires-clause-chosen
choose-requires-clause-chosen c = at-later _ _ c.args.half c.lowest-rest.ensures.grows c.requires.first

pub choose-requires-clause-other : goal.choose-requires-clause-other
choose-requires-clause-other c = at-later _ _ c.args.tie c.lowest-rest.ensures.grows c.requires.last

pub returns : goal.returns
returns c =
    made-then (λ numbers. IsPastTie (low_bits (c.args.by - 1) (numbers c.args.from.place))
    (numbers c.args.half.place) (numbers c.args.tie.place) (numbers c.choose.result.place))
    c.lowest-rest.ensures (rw c.bit_word.ensures at c.choose.ensures)
    (λ numbers has later p q. record {
      none = λ e. q.zero (p.1 e);
      some = λ more. q.any (λ e. absurd (omega (arith, p.0 e, more)));
    })
