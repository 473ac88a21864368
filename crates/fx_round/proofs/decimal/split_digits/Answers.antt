use Rattle.std.proofs.Common.{◌≡◌, ◌∙◌, sym, arith, inl, inr, take, drop, length, ap}
use Rattle.fx_round.proofs.Digits.{front_split}
use Rattle.fx_round.proofs.decimal.split_digits.Goals as goal

pub returns-then-not-is_ascii_digit-clause-front : goal.returns-then-not-is_ascii_digit-clause-front
returns-then-not-is_ascii_digit-clause-front c =
    c.split_at.ensures.front ∙ (front_split c.args.text.now c.loop-i.i c.loop-i.auto.i-end c.loop-i.invariant (inr (sym c.is_ascii_digit.ensures.value ∙ c.if-not-is_ascii_digit.true))).0

pub returns-then-not-is_ascii_digit-clause-back : goal.returns-then-not-is_ascii_digit-clause-back
returns-then-not-is_ascii_digit-clause-back c =
    c.split_at.ensures.back ∙ (front_split c.args.text.now c.loop-i.i c.loop-i.auto.i-end c.loop-i.invariant (inr (sym c.is_ascii_digit.ensures.value ∙ c.if-not-is_ascii_digit.true))).1

pub returns-clause-front : goal.returns-clause-front
returns-clause-front c =
    let e : c.loop-i.i ≡ length c.args.text.now = omega arith in
    c.split_at-2.ensures.front ∙ ap (λ n. take n c.args.text.now) (sym e) ∙ (front_split c.args.text.now c.loop-i.i c.loop-i.auto.i-end c.loop-i.invariant (inl e)).0

pub returns-clause-back : goal.returns-clause-back
returns-clause-back c =
    let e : c.loop-i.i ≡ length c.args.text.now = omega arith in
    c.split_at-2.ensures.back ∙ ap (λ n. drop n c.args.text.now) (sym e) ∙ (front_split c.args.text.now c.loop-i.i c.loop-i.auto.i-end c.loop-i.invariant (inl e)).1
