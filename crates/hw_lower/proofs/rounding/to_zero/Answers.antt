use Rattle.std.proofs.Common.{◌^◌, Bool, true, subst}
use Rattle.math_num.specs.Word.{InWord}
use Rattle.fx_type.specs.Conversion.{Rounds}
use Rattle.fx_type.specs.declared.rounding.Rounding.TheVariants.{Zero}
use Rattle.hw_lower.proofs.PlanSteps.{at-later}
use Rattle.hw_lower.proofs.StepChains.{made-both, made-then}
use Rattle.hw_lower.proofs.Modes.{zero-rounds}
use Rattle.hw_lower.proofs.rounding.to_zero.Goals as goal

pub round_by_carry-requires : goal.round_by_carry-requires
round_by_carry-requires c = record {
  at = at-later _ _ c.args.from c.both-carry.ensures.grows (at-later _ _ c.args.from c.bit-sign.ensures.grows (at-later _ _ c.args.from c.lowest-low.ensures.grows c.requires.can.at));
  one = c.both-carry.ensures.at;
  bit = c.both-carry.ensures.has_word;
  some = c.requires.can.some;
}

pub bit-sign-requires : goal.bit-sign-requires
bit-sign-requires c = at-later _ _ c.args.from c.lowest-low.ensures.grows c.requires.can.at

pub both-carry-requires-clause-test : goal.both-carry-requires-clause-test
both-carry-requires-clause-test c = at-later _ _ c.lowest-low.result c.bit-sign.ensures.grows c.lowest-low.ensures.at

pub returns : goal.returns
returns c =
    made-then (λ numbers. Rounds Zero (numbers c.args.from.place) (2 ^ c.args.by)
    (numbers c.round_by_carry.result.place))
    (made-both c.lowest-low.ensures (made-both c.bit-sign.ensures c.both-carry.ensures))
    c.round_by_carry.ensures
    (λ numbers has later p q.
    let own : InWord c.args.from.word.width true (numbers c.args.from.place) =
    subst (λ (s : Bool). InWord c.args.from.word.width s (numbers c.args.from.place)) c.requires.signed
    (has c.args.from c.requires.can.at) in
    zero-rounds (numbers c.args.from.place) c.args.by c.args.from.word.width (numbers c.lowest-low.result.place)
    (numbers c.bit-sign.result.place) (numbers c.both-carry.result.place)
    (numbers c.round_by_carry.result.place) own p.0 p.1.0 p.1.1 q)

pub both-carry-requires-clause-bit : goal.both-carry-requires-clause-bit
both-carry-requires-clause-bit c = c.bit-sign.ensures.at

pub both-carry-requires-clause-word : goal.both-carry-requires-clause-word
both-carry-requires-clause-word c = c.bit-sign.ensures.has_word
