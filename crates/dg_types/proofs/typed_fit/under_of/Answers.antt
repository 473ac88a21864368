use Rattle.std.proofs.Common.{◌^◌, ◌≤◌, arith}
use Rattle.std.proofs.Math.Nat.{one-le-pow, pow-le-pow_right}
use Rattle.std.proofs.lemmas.Int.{ints}
use Rattle.dg_types.proofs.typed_fit.under_of.Goals as goal

pub pow-requires : goal.pow-requires
pow-requires c =
    let h : c.from.result ≤ 36 = omega (arith, ints, c.from.ensures, c.unsigned_abs.ensures.value, c.args.decimal.least_exponent, c.args.decimal.greatest_exponent) in
    let b : 10 ^ c.from.result ≤ 10 ^ 36 = pow-le-pow_right (omega arith) h in omega (arith, b)

pub returns-then-decimal-lt0-clause-few : goal.returns-then-decimal-lt0-clause-few
returns-then-decimal-lt0-clause-few c =
    let h : c.from.result ≤ 36 = omega (arith, ints, c.from.ensures, c.unsigned_abs.ensures.value, c.args.decimal.least_exponent, c.if-decimal-lt0.true) in
    let b : 10 ^ c.from.result ≤ 10 ^ 36 = pow-le-pow_right (omega arith) h in omega (arith, b, c.pow.ensures)

pub returns-then-decimal-lt0-clause-some : goal.returns-then-decimal-lt0-clause-some
returns-then-decimal-lt0-clause-some c = omega (arith, c.pow.ensures, one-le-pow c.from.result 10 (omega arith))
