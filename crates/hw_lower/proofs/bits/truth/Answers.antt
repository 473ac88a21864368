use Rattle.std.proofs.Common.{◌≡◌, sym, ◌∙◌, subst}
use Rattle.math_num.specs.Word.{InWord}
use Rattle.fx_type.specs.Conversion.{IsTruthOf}
use Rattle.hw_lower.specs.declared.plan.Word.{Word}
use Rattle.hw_lower.specs.inner.PlanSteps.{IsMade, bit_word}
use Rattle.hw_lower.proofs.PlanSteps.{at-later}
use Rattle.hw_lower.proofs.StepChains.{made-self, made-then}
use Rattle.hw_lower.proofs.WordRests.{same-words}
use Rattle.hw_lower.proofs.Modes.{bit-truth}
use Rattle.hw_lower.proofs.bits.truth.Goals as goal

pub returns-then-eq : goal.returns-then-eq
returns-then-eq c =
    let same : c.args.from.word ≡ bit_word = same-words c.args.from.word c.bit_word.result (sym c.if-eq.ensures) ∙ c.bit_word.ensures in
    subst (λ (w : Word). IsMade c.args.plan.now c.args.plan.now w (λ numbers. IsTruthOf (numbers c.args.from.place) (numbers c.args.from.place)) c.args.from) same
    (made-self (λ numbers. IsTruthOf (numbers c.args.from.place) (numbers c.args.from.place)) c.requires
    (λ numbers has. bit-truth (numbers c.args.from.place) (subst (λ (w : Word). InWord w.width w.signed (numbers c.args.from.place)) same (has c.args.from c.requires))))

pub both-requires-clause-test : goal.both-requires-clause-test
both-requires-clause-test c = at-later c.args.plan.now c.constant-one.new.plan c.args.from c.constant-one.ensures.grows c.requires

pub returns : goal.returns
returns c =
    made-then (λ numbers. IsTruthOf (numbers c.args.from.place) (numbers c.both.result.place)) c.constant-one.ensures c.both.ensures
    (λ numbers has later p q. record { zero = q.zero; one = λ h. q.any h ∙ p })
