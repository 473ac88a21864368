use Rattle.std.proofs.Common.{◌^◌}
use Rattle.fx_type.specs.Conversion.{Rounds}
use Rattle.fx_type.specs.declared.rounding.Rounding.TheVariants.{Nearest}
use Rattle.hw_lower.proofs.StepChains.{made-then}
use Rattle.hw_lower.proofs.Modes.{nearest-rounds}
use Rattle.hw_lower.proofs.PlanSteps.{at-later}
use Rattle.hw_lower.proofs.rounding.to_nearest.Goals as goal

pub round_by_carry-requires : goal.round_by_carry-requires
round_by_carry-requires c = record {
  at = at-later _ _ c.args.from c.bit-half.ensures.grows c.requires.at;
  one = c.bit-half.ensures.at;
  bit = c.bit-half.ensures.has_word;
  some = c.requires.some;
}

pub returns : goal.returns
returns c =
    made-then (λ numbers. Rounds Nearest (numbers c.args.from.place) (2 ^ c.args.by) (numbers c.round_by_carry.result.place)) c.bit-half.ensures c.round_by_carry.ensures
    (λ numbers has later p q. nearest-rounds (numbers c.args.from.place) c.args.by c.requires.some (numbers c.bit-half.result.place) (numbers c.round_by_carry.result.place) p q)
