use Rattle.std.proofs.Common.{◌*◌, ◌^◌, ◌<◌, pos, arith, mul-pos, pow_pos, FitsSigned}
use Rattle.std.specs.Int.{w16, w128, int_gap}
use Rattle.std.proofs.lemmas.Int.{ints, to_z-of_z}
use Rattle.fx_type.specs.declared.kind.FxType.TheVariants.{Num}
use Rattle.fx_type.specs.FxType.{IsType}
use Rattle.fx_round.specs.inner.Parts.{IsSize}
use Rattle.fx_round.proofs.Sizes.{ten_positive}
use Rattle.fx_round.proofs.stored.to_stored.Goals as goal

pub returns-in-Num : goal.returns-in-Num
returns-in-Num c =
    let valid : IsType (Num c.in-Num.signed c.in-Num.width c.in-Num.frac) = rw c.in-Num.is at c.requires in
    let f : FitsSigned w16 c.in-Num.frac = omega (arith, ints, valid.1, valid.2) in
    let k = to_z-of_z w16 c.in-Num.frac f in
    let e = to_z-of_z w128 c.settle_size.result (record { sfits = c.settle_size.type_inv }) in
    let n = c.args.decimal.digits * 10 ^ int_gap (pos 0) c.args.decimal.exponent * 2 ^ int_gap (pos 0) c.in-Num.frac in
    let d = 10 ^ int_gap c.args.decimal.exponent (pos 0) * 2 ^ int_gap c.in-Num.frac (pos 0) in
    let size : IsSize n d c.magnitude.result = rw k at c.magnitude.ensures in
    let positive : 0 < d = mul-pos (ten_positive (int_gap c.args.decimal.exponent (pos 0))) (pow_pos (int_gap c.in-Num.frac (pos 0))) in
    rw (c.in-Num.is, e) (c.settle_size.ensures n d positive size)
