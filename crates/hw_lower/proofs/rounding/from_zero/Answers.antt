use Rattle.std.proofs.Common.{◌^◌, ◌∙◌, pos, Bool, true, false, subst, sym}
use Rattle.math_num.specs.Word.{InWord}
use Rattle.fx_type.specs.Conversion.{Rounds}
use Rattle.fx_type.specs.declared.rounding.Rounding.TheVariants.{Round}
use Rattle.hw_lower.specs.inner.PlanSteps.{IsChosen}
use Rattle.hw_lower.specs.declared.plan.Word.{Word}
use Rattle.hw_lower.proofs.PlanSteps.{at-later}
use Rattle.hw_lower.proofs.StepChains.{made-both, made-map, made-then}
use Rattle.hw_lower.proofs.Modes.{nearest-round, round-rounds}
use Rattle.hw_lower.proofs.rounding.from_zero.Goals as goal

pub round_by_carry-requires : goal.round_by_carry-requires
round_by_carry-requires c = record {
  at = at-later _ _ c.args.from c.past_tie-carry.ensures.grows
      (at-later _ _ c.args.from c.choose-tie.ensures.grows
      (at-later _ _ c.args.from c.constant-zero.ensures.grows
      (at-later _ _ c.args.from c.bit-sign.ensures.grows
      (at-later _ _ c.args.from c.bit-half.ensures.grows c.requires.at))));
  one = c.past_tie-carry.ensures.at;
  bit = c.past_tie-carry.ensures.has_word;
  some = c.requires.some;
}

pub past_tie-carry-requires : goal.past_tie-carry-requires
past_tie-carry-requires c = record {
  at = at-later _ _ c.args.from c.choose-tie.ensures.grows
      (at-later _ _ c.args.from c.constant-zero.ensures.grows
      (at-later _ _ c.args.from c.bit-sign.ensures.grows
      (at-later _ _ c.args.from c.bit-half.ensures.grows c.requires.at)));
  first = at-later _ _ c.bit-half.result c.choose-tie.ensures.grows
      (at-later _ _ c.bit-half.result c.constant-zero.ensures.grows
      (at-later _ _ c.bit-half.result c.bit-sign.ensures.grows c.bit-half.ensures.at));
  half_bit = c.bit-half.ensures.has_word;
  last = c.choose-tie.ensures.at;
  tie_bit = c.choose-tie.ensures.has_word ∙ c.bit_word-then-from.ensures;
  some = c.requires.some;
}

pub choose-tie-requires-clause-test : goal.choose-tie-requires-clause-test
choose-tie-requires-clause-test c = at-later _ _ c.bit-sign.result c.constant-zero.ensures.grows c.bit-sign.ensures.at

pub choose-tie-requires-clause-other : goal.choose-tie-requires-clause-other
choose-tie-requires-clause-other c = at-later _ _ c.bit-half.result c.constant-zero.ensures.grows (at-later _ _ c.bit-half.result c.bit-sign.ensures.grows c.bit-half.ensures.at)

pub returns-then-from : goal.returns-then-from
returns-then-from c =
    made-then (λ numbers. Rounds Round (numbers c.args.from.place) (2 ^ c.args.by)
    (numbers c.round_by_carry.result.place))
    (made-both c.bit-half.ensures (made-both c.bit-sign.ensures
    (made-both c.constant-zero.ensures (made-both c.choose-tie.ensures c.past_tie-carry.ensures))))
    c.round_by_carry.ensures
    (λ numbers has later p q.
    let own : InWord c.args.from.word.width true (numbers c.args.from.place) =
    subst (λ (s : Bool). InWord c.args.from.word.width s (numbers c.args.from.place)) c.if-from.true
    (has c.args.from c.requires.at) in
    let tie : IsChosen (numbers c.bit-sign.result.place) (pos 0) (numbers c.bit-half.result.place) (numbers c.choose-tie.result.place) = rw p.1.1.0 at p.1.1.1.0 in
    round-rounds (numbers c.args.from.place) c.args.by c.requires.some c.args.from.word.width
    (numbers c.bit-half.result.place) (numbers c.bit-sign.result.place) (numbers c.choose-tie.result.place)
    (numbers c.past_tie-carry.result.place)
    (numbers c.round_by_carry.result.place) own p.0 p.1.0 tie p.1.1.1.1 q)

pub bit-sign-requires : goal.bit-sign-requires
bit-sign-requires c = at-later _ _ c.args.from c.bit-half.ensures.grows c.requires.at

pub choose-tie-requires-clause-chosen : goal.choose-tie-requires-clause-chosen
choose-tie-requires-clause-chosen c = c.constant-zero.ensures.at

pub choose-tie-requires-clause-word : goal.choose-tie-requires-clause-word
choose-tie-requires-clause-word c = c.constant-zero.ensures.has_word ∙ c.bit_word.ensures ∙ sym c.bit_word-then-from.ensures

pub choose-tie-requires-clause-fits : goal.choose-tie-requires-clause-fits
choose-tie-requires-clause-fits c = λ numbers zero own. subst
    (λ (w : Word). InWord w.width w.signed (numbers c.bit-half.result.place))
    (c.bit-half.ensures.has_word ∙ sym c.bit_word-then-from.ensures) own

pub returns : goal.returns
returns c =
    made-map (λ numbers. Rounds Round (numbers c.args.from.place) (2 ^ c.args.by) (numbers c.to_nearest.result.place)) c.to_nearest.ensures
    (λ numbers has p.
    let own : InWord c.args.from.word.width false (numbers c.args.from.place) =
    subst (λ (s : Bool). InWord c.args.from.word.width s (numbers c.args.from.place)) c.if-from.false
    (has c.args.from c.requires.at) in
    nearest-round (numbers c.args.from.place) c.args.by (numbers c.to_nearest.result.place) own.low p)
