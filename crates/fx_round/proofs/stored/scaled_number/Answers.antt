use Rattle.std.proofs.Common.{◌≡◌, pos, ◌-ℤ◌, ◌≤ℤ◌, nat_abs, to_z, of_z, sym, arith}
use Rattle.std.specs.Int.{w16}
use Rattle.std.proofs.lemmas.Int.{ints, to_z-of_z}
use Rattle.math_num.proofs.Integers.{gap_is, gap_none}
use Rattle.fx_round.proofs.Sizes.{size_down, size_up}
use Rattle.fx_round.proofs.stored.scaled_number.Goals as goal

pub power_quotient-requires-clause-some : goal.power_quotient-requires-clause-some
power_quotient-requires-clause-some c = omega (arith, ints, to_z-of_z w16 c.args.frac c.ranges.frac, c.requires.least, c.if-frac-ge0.false)

pub power_quotient-requires-clause-few : goal.power_quotient-requires-clause-few
power_quotient-requires-clause-few c = omega (arith, ints, to_z-of_z w16 c.args.frac c.ranges.frac, c.requires.least, c.if-frac-ge0.false)

pub returns-then-frac-ge0 : goal.returns-then-frac-ge0
returns-then-frac-ge0 c =
    let x = to_z w16 (of_z w16 c.args.frac) in
    let same : x ≡ c.args.frac = to_z-of_z w16 c.args.frac c.ranges.frac in
    let difference : x ≡ c.args.frac -ℤ pos 0 = omega (arith, ints, same) in
    let order : pos 0 ≤ℤ c.args.frac = omega (arith, ints, same, c.if-frac-ge0.true) in
    size_up _ c.args.unit (nat_abs x) _ _ c.power_product.result (sym (gap_is (pos 0) c.args.frac x order difference)) (gap_none c.args.frac (pos 0) order) c.power_product.ensures

pub returns-else-frac-ge0 : goal.returns-else-frac-ge0
returns-else-frac-ge0 c =
    let same = to_z-of_z w16 c.args.frac c.ranges.frac in
    let x = to_z w16 (of_z w16 (pos 0 -ℤ to_z w16 (of_z w16 c.args.frac))) in
    let difference : x ≡ pos 0 -ℤ c.args.frac = omega (arith, ints, same, c.requires.least, c.if-frac-ge0.false) in
    let order : c.args.frac ≤ℤ pos 0 = omega (arith, ints, same, c.if-frac-ge0.false) in
    size_down _ c.args.unit (nat_abs x) _ _ c.power_quotient.result (gap_none (pos 0) c.args.frac order) (sym (gap_is c.args.frac (pos 0) x order difference)) c.power_quotient.ensures
