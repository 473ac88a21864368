use Rattle.std.proofs.Common.{arith}
use Rattle.itoa.proofs.Decimal.{length_wide}
use Rattle.fx_tables.proofs.numeral.put_number.Goals as goal

pub put_minus-requires-clause-room : goal.put_minus-requires-clause-room
put_minus-requires-clause-room c = omega (arith, length_wide c.unsigned_abs.result c.unsigned_abs.type_inv)

pub returns-clause-near : goal.returns-clause-near
returns-clause-near c = omega (arith, length_wide c.unsigned_abs.result c.unsigned_abs.type_inv)
