use Rattle.std.proofs.Common.{◌^◌, arith}
use Rattle.std.proofs.lemmas.Nat.{mul-le}
use Rattle.dg_rates.proofs.OneUnit.{ten_mono}
use Rattle.dg_rates.proofs.units.scaled_digits.Goals as goal

pub returns-then-zeros-gt38 : goal.returns-then-zeros-gt38
returns-then-zeros-gt38 c =
    omega (arith, ten_mono 39 c.args.zeros (omega (arith, c.if-zeros-gt38.true)), mul-le 1 (10 ^ c.args.zeros) c.args.digits (10 ^ c.args.zeros) c.requires (omega arith))

pub pow-requires : goal.pow-requires
pow-requires c = omega (arith, ten_mono c.args.zeros 38 (omega (arith, c.if-zeros-gt38.false)))
