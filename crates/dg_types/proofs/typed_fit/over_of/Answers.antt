use Rattle.std.proofs.Common.{◌*◌, ◌^◌, ◌<◌, ◌≤◌, arith, mul-le-mul_left, mul-pos}
use Rattle.std.proofs.Math.Nat.{one-le-pow, pow-le-pow_right}
use Rattle.std.proofs.lemmas.Int.{ints}
use Rattle.dg_types.proofs.typed_fit.over_of.Goals as goal

pub returns-then-decimal-ge0-clause-few : goal.returns-then-decimal-ge0-clause-few
returns-then-decimal-ge0-clause-few c =
    let h : c.from.result ≤ 18 = omega (arith, ints, c.from.ensures, c.unsigned_abs.ensures.value, c.args.decimal.greatest_exponent, c.if-decimal-ge0.true) in
    let b : 10 ^ c.from.result ≤ 10 ^ 18 = pow-le-pow_right (omega arith) h in
    let p : c.pow.result ≤ 1000000000000000000 = omega (arith, b, c.pow.ensures) in
    let q : c.from-digits.result * c.pow.result ≤ c.from-digits.result * 1000000000000000000 = mul-le-mul_left c.from-digits.result p in
    omega (arith, q, c.from-digits.ensures, c.args.decimal.eighteen_digits)

pub returns-then-decimal-ge0-clause-some : goal.returns-then-decimal-ge0-clause-some
returns-then-decimal-ge0-clause-some c some =
    let p : 0 < c.pow.result = omega (arith, c.pow.ensures, one-le-pow c.from.result 10 (omega arith)) in
    let d : 0 < c.from-digits.result = omega (arith, c.from-digits.ensures) in
    mul-pos d p
