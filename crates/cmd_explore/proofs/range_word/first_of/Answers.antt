use Rattle.std.proofs.Common.{◌≡◌, ◌==◌, length, sym, ◌∙◌, arith}
use Rattle.std.proofs.lemmas.Bool.{eq-eqb}
use Rattle.std.proofs.lemmas.List.Sums.{position_or_len_is}
use Rattle.cmd_explore.proofs.range_word.first_of.Goals as goal

pub returns-then-word-place-clause-is : goal.returns-then-word-place-clause-is
returns-then-word-place-clause-is c =
    let low = c.loop-place-test.true in
    let end = c.loop-place.auto.place-end in
    sym (position_or_len_is (λ byte. byte == c.args.mark) c.args.word.now c.loop-place.place 0
    (omega (arith, low, end)) c.loop-place.invariant
    (λ within. eq-eqb _ c.args.mark (search (c.if-word-place.true))))

pub returns-clause-is : goal.returns-clause-is
returns-clause-is c =
    let high = c.loop-place-test.false in
    let end = c.loop-place.auto.place-end in
    let all : c.loop-place.place ≡ length c.args.word.now = omega (arith, high, end) in
    sym all ∙ sym (position_or_len_is (λ byte. byte == c.args.mark) c.args.word.now c.loop-place.place 0 (omega (arith, end)) c.loop-place.invariant (λ within. absurd (omega (arith, within, all))))
