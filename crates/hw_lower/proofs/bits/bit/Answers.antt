use Rattle.std.proofs.Common.{◌≡◌, pos, Bool, true, false, ap, sym, ◌∙◌, subst}
use Rattle.math_num.specs.Word.{IsWord, InWord}
use Rattle.hw_lower.specs.inner.PlanSteps.{bit_of}
use Rattle.hw_lower.proofs.StepChains.{made-map}
use Rattle.hw_lower.proofs.LowBits.{bit-past, bit-none}
use Rattle.hw_lower.proofs.bits.bit.Goals as goal

pub returns-then-from : goal.returns-then-from
returns-then-from c =
    made-map (λ numbers. numbers c.bit_within-then-from.result.place ≡ pos (bit_of (numbers c.args.from.place) c.args.place)) c.bit_within-then-from.ensures
    (λ numbers has p.
    let own : InWord c.args.from.word.width true (numbers c.args.from.place) =
    subst (λ (s : Bool). InWord c.args.from.word.width s (numbers c.args.from.place)) c.if-from.true
    (has c.args.from c.requires) in
    p ∙ ap pos (bit-past c.args.from.word.width c.args.place (numbers c.args.from.place) own c.if-place-from.false))

pub returns : goal.returns
returns c =
    made-map (λ numbers. numbers c.constant.result.place ≡ pos (bit_of (numbers c.args.from.place) c.args.place)) (rw c.bit_word.ensures at c.constant.ensures)
    (λ numbers has p.
    let valid : IsWord c.args.from.word.width false = subst (λ (s : Bool). IsWord c.args.from.word.width s) c.if-from.false c.requires.valid in
    let own : InWord c.args.from.word.width false (numbers c.args.from.place) =
    subst (λ (s : Bool). InWord c.args.from.word.width s (numbers c.args.from.place)) c.if-from.false
    (has c.args.from c.requires) in
    p ∙ ap pos (sym (bit-none c.args.from.word.width c.args.place (numbers c.args.from.place) valid own c.if-place-from.false)))
