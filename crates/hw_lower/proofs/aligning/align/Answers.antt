use Rattle.std.proofs.Common.{◌≡◌, ◌-ℤ◌, nat_abs, to_z, of_z, arith}
use Rattle.std.specs.Int.{w16, int_gap}
use Rattle.std.proofs.lemmas.Int.{ints}
use Rattle.math_num.specs.Word.{IsWrapped}
use Rattle.fx_type.specs.FxType.{frac_of, aligned}
use Rattle.fx_type.proofs.Ranges.{frac_bounds}
use Rattle.math_num.proofs.Integers.{gap_is}
use Rattle.hw_lower.proofs.StepChains.{made-map}
use Rattle.hw_lower.proofs.aligning.align.Goals as goal

pub returns : goal.returns
returns c =
    let bounds = frac_bounds c.args.side.kind c.requires.kind in
    let x = to_z w16 (of_z w16 (to_z w16 (of_z w16 c.args.frac) -ℤ to_z w16 (of_z w16 c.frac.result))) in
    let difference : x ≡ c.args.frac -ℤ frac_of c.args.side.kind = omega (arith, ints, bounds.0, bounds.1, c.requires.above, c.requires.high, c.frac.ensures) in
    let gap : nat_abs x ≡ int_gap (frac_of c.args.side.kind) c.args.frac = gap_is (frac_of c.args.side.kind) c.args.frac x c.requires.above difference in
    made-map (λ numbers. IsWrapped (aligned c.args.frac c.args.side.kind (numbers c.args.side.from.place)) c.args.word.width c.args.word.signed (numbers c.shift.result.place)) c.shift.ensures
    (λ numbers has p. rw (← gap) p)

pub shift-requires-clause-at : goal.shift-requires-clause-at
shift-requires-clause-at c = c.requires.at

pub shift-requires-clause-word : goal.shift-requires-clause-word
shift-requires-clause-word c = c.requires.word

pub overflow_sub-up : goal.overflow_sub-up
overflow_sub-up c =
    let bounds = frac_bounds c.args.side.kind c.requires.kind in
    omega (arith, ints, bounds.0, bounds.1, c.requires.above, c.requires.high, c.frac.ensures)

pub overflow_cast-up : goal.overflow_cast-up
overflow_cast-up c =
    let bounds = frac_bounds c.args.side.kind c.requires.kind in
    omega (arith, ints, bounds.0, bounds.1, c.requires.above, c.requires.high, c.frac.ensures)
