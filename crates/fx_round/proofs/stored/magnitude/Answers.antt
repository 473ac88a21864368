use Rattle.std.proofs.Common.{◌≡◌, ◌∙◌, ℕ, ◌*◌, ◌^◌, ◌<◌, ◌≤◌, pos, neg_ℤ, ◌≤ℤ◌, ap, ap₂, arith, mul-le-mul_left, mod-lt, div-add-mod'}
use Rattle.std.specs.Int.{w16, int_gap}
use Rattle.std.proofs.lemmas.Int.{ints, to_z-of_z}
use Rattle.math_num.proofs.Integers.{gap_none}
use Rattle.fx_round.proofs.Sizes.{down_gap, part_size, ten_bound, ten_positive, up_gap, whole_size}
use Rattle.fx_round.proofs.stored.magnitude.Goals as goal

pub pow-power-requires : goal.pow-power-requires
pow-power-requires c =
    let h : c.from.result ≤ 36 = omega (arith, ints, c.from.ensures, c.unsigned_abs.ensures.value, c.args.decimal.least_exponent, c.args.decimal.greatest_exponent) in
    omega (arith, ten_bound c.from.result 36 h)

pub scaled_number-requires-clause-whole : goal.scaled_number-requires-clause-whole
scaled_number-requires-clause-whole c =
    let h : c.from.result ≤ 18 = omega (arith, ints, c.from.ensures, c.unsigned_abs.ensures.value, c.args.decimal.greatest_exponent, c.if-decimal-ge0.true) in
    let p : c.pow-power.result ≤ 1000000000000000000 = omega (arith, ten_bound c.from.result 18 h, c.pow-power.ensures) in
    let q : c.from-digits.result * c.pow-power.result ≤ c.from-digits.result * 1000000000000000000 = mul-le-mul_left c.from-digits.result p in
    omega (arith, q, c.from-digits.ensures, c.args.decimal.eighteen_digits)

pub nonzero_div-mixed : goal.nonzero_div-mixed
nonzero_div-mixed c = omega (arith, c.pow-power.ensures, ten_positive c.from.result)

pub nonzero_rem-mixed : goal.nonzero_rem-mixed
nonzero_rem-mixed c = omega (arith, c.pow-power.ensures, ten_positive c.from.result)

pub scaled_number-requires-else-decimal-ge0-clause-rest : goal.scaled_number-requires-else-decimal-ge0-clause-rest
scaled_number-requires-else-decimal-ge0-clause-rest c =
    let h : 0 < c.pow-power.result = omega (arith, c.pow-power.ensures, ten_positive c.from.result) in
    mod-lt c.from-digits.result h

pub scaled_number-requires-else-decimal-ge0-clause-unit : goal.scaled_number-requires-else-decimal-ge0-clause-unit
scaled_number-requires-else-decimal-ge0-clause-unit c =
    let h : c.from.result ≤ 36 = omega (arith, ints, c.from.ensures, c.unsigned_abs.ensures.value, c.args.decimal.least_exponent, c.args.decimal.greatest_exponent) in
    omega (arith, ten_bound c.from.result 36 h, c.pow-power.ensures)

pub returns-then-decimal-ge0 : goal.returns-then-decimal-ge0
returns-then-decimal-ge0 c =
    let e = c.args.decimal.exponent in
    let order : pos 0 ≤ℤ e = omega (arith, ints, c.args.decimal.least_exponent, c.args.decimal.greatest_exponent, c.if-decimal-ge0.true) in
    let power : pos c.from.result ≡ e = omega (arith, ints, c.from.ensures, c.unsigned_abs.ensures.value, c.args.decimal.least_exponent, c.args.decimal.greatest_exponent, c.if-decimal-ge0.true) in
    let tens = c.pow-power.ensures ∙ ap (λ (n : ℕ). 10 ^ n) (up_gap e c.from.result order power) in
    let count : c.from-digits.result * c.pow-power.result ≡ c.args.decimal.digits * 10 ^ int_gap (pos 0) e = ap₂ (λ (a b : ℕ). a * b) c.from-digits.ensures tens in
    whole_size _ _ _ _ _ c.scaled_number.result count (gap_none e (pos 0) order) (rw (to_z-of_z w16 c.args.frac c.ranges.frac) at c.scaled_number.ensures)

pub returns-else-decimal-ge0 : goal.returns-else-decimal-ge0
returns-else-decimal-ge0 c =
    let e = c.args.decimal.exponent in
    let order : e ≤ℤ pos 0 = omega (arith, ints, c.args.decimal.least_exponent, c.args.decimal.greatest_exponent, c.if-decimal-ge0.false) in
    let power : pos c.from.result ≡ neg_ℤ e =
    omega (
      arith,
      ints,
      c.from.ensures,
      c.unsigned_abs.ensures.value,
      c.args.decimal.least_exponent,
      c.args.decimal.greatest_exponent,
      c.if-decimal-ge0.false,
    ) in
    let tens = c.pow-power.ensures ∙ ap (λ (n : ℕ). 10 ^ n) (down_gap e c.from.result order power) in
    part_size _ _ c.pow-power.result _ _ _ _ _ c.scaled_number-else-decimal-ge0.result (div-add-mod' c.from-digits.result c.pow-power.result ∙ c.from-digits.ensures) tens (gap_none (pos 0) e order)
    (rw (to_z-of_z w16 c.args.frac c.ranges.frac) at c.scaled_number-else-decimal-ge0.ensures)
