use Rattle.std.proofs.Common.{◌^◌}
use Rattle.fx_type.specs.Conversion.{Rounds}
use Rattle.fx_type.specs.declared.rounding.Rounding.TheVariants.{Convergent}
use Rattle.hw_lower.proofs.PlanSteps.{at-later}
use Rattle.hw_lower.proofs.StepChains.{made-both, made-then}
use Rattle.hw_lower.proofs.Modes.{convergent-rounds}
use Rattle.hw_lower.proofs.rounding.to_even.Goals as goal

pub round_by_carry-requires : goal.round_by_carry-requires
round_by_carry-requires c = record {
  at = at-later _ _ c.args.from c.past_tie-carry.ensures.grows
      (at-later _ _ c.args.from c.both-tie.ensures.grows
      (at-later _ _ c.args.from c.bit-odd.ensures.grows
      (at-later _ _ c.args.from c.bit-half.ensures.grows c.requires.at)));
  one = c.past_tie-carry.ensures.at;
  bit = c.past_tie-carry.ensures.has_word;
  some = c.requires.some;
}

pub past_tie-carry-requires : goal.past_tie-carry-requires
past_tie-carry-requires c = record {
  at = at-later _ _ c.args.from c.both-tie.ensures.grows (at-later _ _ c.args.from c.bit-odd.ensures.grows (at-later _ _ c.args.from c.bit-half.ensures.grows c.requires.at));
  first = at-later _ _ c.bit-half.result c.both-tie.ensures.grows (at-later _ _ c.bit-half.result c.bit-odd.ensures.grows c.bit-half.ensures.at);
  half_bit = c.bit-half.ensures.has_word;
  last = c.both-tie.ensures.at;
  tie_bit = c.both-tie.ensures.has_word;
  some = c.requires.some;
}

pub returns : goal.returns
returns c =
    made-then (λ numbers. Rounds Convergent (numbers c.args.from.place) (2 ^ c.args.by)
    (numbers c.round_by_carry.result.place))
    (made-both c.bit-half.ensures (made-both c.bit-odd.ensures
    (made-both c.both-tie.ensures c.past_tie-carry.ensures))) c.round_by_carry.ensures
    (λ numbers has later p q. convergent-rounds (numbers c.args.from.place) c.args.by c.requires.some
    (numbers c.bit-half.result.place) (numbers c.bit-odd.result.place) (numbers c.both-tie.result.place)
    (numbers c.past_tie-carry.result.place)
    (numbers c.round_by_carry.result.place) p.0 p.1.0 p.1.1.0 p.1.1.1 q)

pub bit-odd-requires : goal.bit-odd-requires
bit-odd-requires c = at-later _ _ c.args.from c.bit-half.ensures.grows c.requires.at

pub both-tie-requires-clause-test : goal.both-tie-requires-clause-test
both-tie-requires-clause-test c = at-later _ _ c.bit-half.result c.bit-odd.ensures.grows c.bit-half.ensures.at

pub both-tie-requires-clause-bit : goal.both-tie-requires-clause-bit
both-tie-requires-clause-bit c = c.bit-odd.ensures.at

pub both-tie-requires-clause-word : goal.both-tie-requires-clause-word
both-tie-requires-clause-word c = c.bit-odd.ensures.has_word
