use Rattle.std.proofs.Common.{subst}
use Rattle.math_num.specs.Word.{IsWord, InWord}
use Rattle.hw_lower.specs.declared.plan.Word.{Word}
use Rattle.hw_lower.specs.inner.PlanSteps.{IsChosen}
use Rattle.hw_lower.proofs.StepChains.{made-map}
use Rattle.hw_lower.proofs.WordRests.{chosen-is}
use Rattle.hw_lower.proofs.plan.choose.Goals as goal

pub returns : goal.returns
returns c =
    made-map (λ numbers. IsChosen (numbers c.args.test.place) (numbers c.args.chosen.place) (numbers c.args.other.place) (numbers c.operation.result.place)) c.operation.ensures
    (λ numbers has p.
    let valid : IsWord c.args.word.width c.args.word.signed = subst (λ (w : Word). IsWord w.width w.signed) c.requires.word c.requires.chosen.valid in
    let own : InWord c.args.word.width c.args.word.signed (numbers c.args.chosen.place) =
    subst (λ (w : Word). InWord w.width w.signed (numbers c.args.chosen.place)) c.requires.word
    (has c.args.chosen c.requires.chosen) in
    chosen-is c.args.word.width c.args.word.signed (numbers c.args.test.place) (numbers c.args.chosen.place) (numbers c.args.other.place) (numbers c.operation.result.place) valid own
    (λ e. c.requires.fits numbers e (has c.args.other c.requires.other)) p)
