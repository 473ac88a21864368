use Rattle.std.proofs.Common.{◌≡◌, ℕ, ◌-◌, ◌^◌, ◌≤◌, ◌≤ℤ◌, Bool, true, false, ℤ, pos, negsuc, neg_ℤ, ◌+ℤ◌, ◌-ℤ◌, FitsSigned, cond, int_lt, refl, subst, arith, pow_mono, pow_pos}
use Rattle.std.specs.Int.{w64}
use Rattle.std.proofs.lemmas.Int.{ints, to_z-of_z}
use Rattle.math_num.proofs.Arithmetic.{double}
use Rattle.fx_type.specs.Conversion.{twice, RoundsDown}
use Rattle.fx_round.specs.inner.Narrow.{IsTie}
use Rattle.fx_round.proofs.Bias.{toward_zero, ties_up, away_from_zero, ties_even}
use Rattle.fx_round.proofs.narrow.rounded_down.Goals as goal

-- a number below 0 has room for what is less than a unit
rest_fits : (v rest sign : ℤ) → FitsSigned w64 v → FitsSigned w64 rest → pos 0 ≤ℤ rest → sign ≡ cond (int_lt v (pos 0)) rest (pos 0) → FitsSigned w64 (v +ℤ sign)
rest_fits v rest sign fits most some is = go (int_lt v (pos 0)) refl is
  where
    go : (negative : Bool) → int_lt v (pos 0) ≡ negative → sign ≡ cond negative rest (pos 0) → FitsSigned w64 (v +ℤ sign)
    go true below s = omega (arith, ints, fits, most, some, below, s)
    go false below s = omega (arith, ints, fits, s)

pub returns-in-Zero : goal.returns-in-Zero
returns-in-Zero c =
    let v = to_z-of_z w64 c.args.v c.ranges.v in
    let power = c.minus_power.ensures in
    let p : 2 ^ c.args.by ≤ 2 ^ 63 = pow_mono c.requires.few in
    let m = to_z-of_z w64 c.minus_power.result (record { sfits = c.minus_power.type_inv }) in
    let rest = negsuc 0 -ℤ c.minus_power.result in
    let most : FitsSigned w64 rest = omega (arith, ints, power, p, pow_pos c.args.by) in
    let k = to_z-of_z w64 c.by_sign.result (record { sfits = c.by_sign.type_inv }) in
    let is : c.by_sign.result ≡ cond (int_lt c.args.v (pos 0)) rest (pos 0) = rw (v, m, to_z-of_z w64 rest most) at c.by_sign.ensures in
    let fits : FitsSigned w64 (c.args.v +ℤ c.by_sign.result) = rest_fits c.args.v rest c.by_sign.result c.ranges.v most (omega (arith, ints, power, pow_pos c.args.by)) is in
    let result = c.floor_of-in-Zero.result in
    let r = to_z-of_z w64 result (record { sfits = c.floor_of-in-Zero.type_inv }) in
    let past : RoundsDown (c.args.v +ℤ c.by_sign.result) (2 ^ c.args.by) result = rw (v, k, to_z-of_z w64 (c.args.v +ℤ c.by_sign.result) fits) at c.floor_of-in-Zero.ensures in
    let floor : RoundsDown (c.args.v +ℤ cond (int_lt c.args.v (pos 0)) rest (pos 0)) (2 ^ c.args.by) result = subst (λ (z : ℤ). RoundsDown (c.args.v +ℤ z) (2 ^ c.args.by) result) is past in
    rw (c.in-Zero.is, r) (toward_zero c.args.v (pos 0) rest (2 ^ c.args.by) result floor (omega (arith, ints)) (omega (arith, ints, power)))

-- half of the unit
half_is : (by : ℕ) → 1 ≤ by → twice (pos (2 ^ (by - 1))) ≡ pos (2 ^ by)
half_is by some = omega (arith, ints, double by some)

-- a number of few bits has room for one less
sum_fits : (v sign : ℤ) → neg_ℤ (pos (2 ^ 62)) ≤ℤ v → FitsSigned w64 v → sign ≡ cond (int_lt v (pos 0)) (negsuc 0) (pos 0) → FitsSigned w64 (v +ℤ sign)
sum_fits v sign low fits is = go (int_lt v (pos 0)) is
  where
    go : (negative : Bool) → sign ≡ cond negative (negsuc 0) (pos 0) → FitsSigned w64 (v +ℤ sign)
    go true s = omega (arith, ints, low, fits, s)
    go false s = omega (arith, ints, low, fits, s)

pub returns-in-Nearest : goal.returns-in-Nearest
returns-in-Nearest c =
    let half = pos (2 ^ (c.args.by - 1)) in
    let e = half_is c.args.by c.requires.some in
    let r = to_z-of_z w64 c.floor_past_half.result (record { sfits = c.floor_past_half.type_inv }) in
    let floor : RoundsDown (c.args.v +ℤ half) (2 ^ c.args.by) c.floor_past_half.result = rw (to_z-of_z w64 c.args.v c.ranges.v) at (c.floor_past_half.ensures half e) in
    rw (c.in-Nearest.is, r) (ties_up c.args.v half (2 ^ c.args.by) c.floor_past_half.result floor e)

pub returns-in-Round : goal.returns-in-Round
returns-in-Round c =
    let half = pos (2 ^ (c.args.by - 1)) in
    let e = half_is c.args.by c.requires.some in
    let v = to_z-of_z w64 c.args.v c.ranges.v in
    let sign = c.by_sign-in-Round.result in
    let k = to_z-of_z w64 sign (record { sfits = c.by_sign-in-Round.type_inv }) in
    let is : sign ≡ cond (int_lt c.args.v (pos 0)) (negsuc 0) (pos 0) = rw v at c.by_sign-in-Round.ensures in
    let fits : FitsSigned w64 (c.args.v +ℤ sign) = sum_fits c.args.v sign c.requires.low c.ranges.v is in
    let result = c.floor_past_half-in-Round.result in
    let r = to_z-of_z w64 result (record { sfits = c.floor_past_half-in-Round.type_inv }) in
    let floor : RoundsDown ((c.args.v +ℤ sign) +ℤ half) (2 ^ c.args.by) result = rw (v, k, to_z-of_z w64 (c.args.v +ℤ sign) fits) at (c.floor_past_half-in-Round.ensures half e) in
    rw (c.in-Round.is, r) (away_from_zero c.args.v sign half (2 ^ c.args.by) result is e floor)

pub returns-in-Convergent : goal.returns-in-Convergent
returns-in-Convergent c =
    let half = pos (2 ^ (c.args.by - 1)) in
    let e = half_is c.args.by c.requires.some in
    let v = to_z-of_z w64 c.args.v c.ranges.v in
    let l = to_z-of_z w64 c.floor_of-in-Convergent.result (record { sfits = c.floor_of-in-Convergent.type_inv }) in
    let tie : IsTie c.floor_of-in-Convergent.result c.odd_bit.result = rw l at c.odd_bit.ensures in
    let t = to_z-of_z w64 c.odd_bit.result (record { sfits = c.odd_bit.type_inv }) in
    let lower : RoundsDown c.args.v (2 ^ c.args.by) c.floor_of-in-Convergent.result = rw v at c.floor_of-in-Convergent.ensures in
    let less = c.args.v -ℤ pos 1 in
    let less_fits : FitsSigned w64 less = omega (arith, ints, c.requires.low, c.ranges.v) in
    let sum = less +ℤ c.odd_bit.result in
    let sum_fits : FitsSigned w64 sum = omega (arith, ints, c.requires.low, c.ranges.v, tie.low, tie.high) in
    let result = c.floor_past_half-in-Convergent.result in
    let r = to_z-of_z w64 result (record { sfits = c.floor_past_half-in-Convergent.type_inv }) in
    let past : RoundsDown (sum +ℤ half) (2 ^ c.args.by) result = rw (v, t, to_z-of_z w64 less less_fits, to_z-of_z w64 sum sum_fits) at (c.floor_past_half-in-Convergent.ensures half e) in
    let bias = (half -ℤ pos 1) +ℤ c.odd_bit.result in
    let floor : RoundsDown (c.args.v +ℤ bias) (2 ^ c.args.by) result = record { at_most = omega (arith, ints, past.at_most); next_above = omega (arith, ints, past.next_above) } in
    rw (c.in-Convergent.is, r)
    (ties_even c.args.v bias (2 ^ c.args.by) result floor c.floor_of-in-Convergent.result c.odd_bit.result lower tie (omega (arith, ints, e, tie.low, tie.high)))
