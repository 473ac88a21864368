use Rattle.std.proofs.Common.{◌≡◌, ◌^◌, pos, ◌*ℤ◌, sym, subst, arith}
use Rattle.math_num.specs.Word.{IsWrapped}
use Rattle.hw_lower.specs.declared.plan.Word.{Word}
use Rattle.hw_lower.specs.inner.PlanSteps.{IsMade}
use Rattle.hw_lower.proofs.StepChains.{made-map, made-self}
use Rattle.hw_lower.proofs.WordRests.{same-words, none-shifted, wrapped-shifted}
use Rattle.hw_lower.proofs.settling.shift.Goals as goal

pub returns-then-eq : goal.returns-then-eq
returns-then-eq c =
    let same : c.args.from.word ≡ c.args.word = same-words c.args.from.word c.args.word (sym c.if-eq.ensures) in
    subst (λ (w : Word). IsMade c.args.plan.now c.args.plan.now w
    (λ numbers. IsWrapped (numbers c.args.from.place *ℤ pos (2 ^ c.args.up)) w.width w.signed
    (numbers c.args.from.place)) c.args.from) same
    (made-self (λ numbers. IsWrapped (numbers c.args.from.place *ℤ pos (2 ^ c.args.up)) c.args.from.word.width c.args.from.word.signed (numbers c.args.from.place)) c.requires.at
    (λ numbers has. none-shifted (numbers c.args.from.place) c.args.up c.args.from.word.width c.args.from.word.signed (omega (arith, c.if-up-gt0.false)) (has c.args.from c.requires.at)))

pub unary-requires-clause-at : goal.unary-requires-clause-at
unary-requires-clause-at c = c.requires.at

pub returns-then-up-gt0 : goal.returns-then-up-gt0
returns-then-up-gt0 c = c.unary.ensures

pub unary-requires-2-clause-at : goal.unary-requires-2-clause-at
unary-requires-2-clause-at c = c.requires.at

pub returns : goal.returns
returns c =
    let none : c.args.up ≡ 0 = omega (arith, c.if-up-gt0.false) in
    made-map (λ numbers. IsWrapped (numbers c.args.from.place *ℤ pos (2 ^ c.args.up)) c.args.word.width c.args.word.signed (numbers c.unary-2.result.place)) c.unary-2.ensures
    (λ numbers has p. wrapped-shifted (numbers c.args.from.place) c.args.up c.args.word.width c.args.word.signed (numbers c.unary-2.result.place) none p)
