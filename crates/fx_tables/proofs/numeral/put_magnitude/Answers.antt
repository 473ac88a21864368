use Rattle.std.proofs.Common.{arith}
use Rattle.itoa.proofs.Decimal.{length_wide}
use Rattle.fx_tables.proofs.numeral.put_magnitude.Goals as goal

pub write_digits-requires : goal.write_digits-requires
write_digits-requires c = (omega (arith, length_wide c.args.magnitude (omega arith)), c.requires.within)
