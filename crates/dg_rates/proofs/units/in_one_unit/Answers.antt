use Rattle.std.proofs.Common.{◌*◌, ◌^◌, ◌-◌, ◌≤◌, sym, ap, ◌∙◌, inl, inr, arith}
use Rattle.dg_rates.proofs.OneUnit.{raised, some_zeros, ten_positive}
use Rattle.dg_rates.proofs.units.in_one_unit.Goals as goal

pub returns-then-rank-other : goal.returns-then-rank-other
returns-then-rank-other c =
    let low = c.rank_of-rank.result in
    let high = c.rank_of-other.result in
    let below = c.if-rank-other.true in
    record {
      unit = 10 ^ low;
      left = c.args.first.digits;
      right = c.args.second.digits * 10 ^ (high - low);
      some = ten_positive low;
      some_left = c.requires.first;
      some_right = some_zeros c.args.second.digits (high - low) c.requires.second;
      first_is = ap (λ n. c.args.first.digits * 10 ^ n) (sym c.rank_of-rank.ensures.value);
      second_is = ap (λ n. c.args.second.digits * 10 ^ n) (sym c.rank_of-other.ensures.value) ∙ raised c.args.second.digits low high below;
      left_shown = c.from.ensures;
      right_shown = c.scaled_digits.ensures;
      small = inl c.args.first.eighteen_digits;
    }

pub returns-else-rank-other : goal.returns-else-rank-other
returns-else-rank-other c =
    let high = c.rank_of-rank.result in
    let low = c.rank_of-other.result in
    let below : low ≤ high = omega (arith, c.if-rank-other.false) in
    record {
      unit = 10 ^ low;
      left = c.args.first.digits * 10 ^ (high - low);
      right = c.args.second.digits;
      some = ten_positive low;
      some_left = some_zeros c.args.first.digits (high - low) c.requires.first;
      some_right = c.requires.second;
      first_is = ap (λ n. c.args.first.digits * 10 ^ n) (sym c.rank_of-rank.ensures.value) ∙ raised c.args.first.digits low high below;
      second_is = ap (λ n. c.args.second.digits * 10 ^ n) (sym c.rank_of-other.ensures.value);
      left_shown = c.scaled_digits-else-rank-other.ensures;
      right_shown = c.from-else-rank-other.ensures;
      small = inr c.args.second.eighteen_digits;
    }
