use Rattle.std.proofs.Common.{◌^◌}
use Rattle.fx_type.specs.Conversion.{Rounds}
use Rattle.fx_type.specs.declared.rounding.Rounding.TheVariants.{Ceiling}
use Rattle.hw_lower.proofs.StepChains.{made-both, made-then}
use Rattle.hw_lower.proofs.Modes.{ceiling-rounds}
use Rattle.hw_lower.proofs.PlanSteps.{at-later}
use Rattle.hw_lower.proofs.rounding.up.Goals as goal

pub round_by_carry-requires : goal.round_by_carry-requires
round_by_carry-requires c = record {
  at = at-later _ _ c.args.from c.truth-carry.ensures.grows (at-later _ _ c.args.from c.lowest-low.ensures.grows c.requires.at);
  one = c.truth-carry.ensures.at;
  bit = c.truth-carry.ensures.has_word;
  some = c.requires.some;
}

pub returns : goal.returns
returns c =
    made-then (λ numbers. Rounds Ceiling (numbers c.args.from.place) (2 ^ c.args.by)
    (numbers c.round_by_carry.result.place))
    (made-both c.lowest-low.ensures c.truth-carry.ensures) c.round_by_carry.ensures
    (λ numbers has later p q. ceiling-rounds (numbers c.args.from.place) c.args.by
    (numbers c.lowest-low.result.place) (numbers c.truth-carry.result.place)
    (numbers c.round_by_carry.result.place) p.0 p.1 q)

pub truth-carry-requires : goal.truth-carry-requires
truth-carry-requires c = c.lowest-low.ensures.at
