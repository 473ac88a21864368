use Rattle.std.proofs.Common.{codes, decimal}
use Rattle.vl_write.proofs.Puts.{both, left4, puts-as}
use Rattle.vl_write.proofs.expressions.put_bit.Goals as goal

pub returns : goal.returns
returns c = puts-as (left4 c.args.name.now (codes " [") (decimal c.args.place) (codes "]")) (both c.put.ensures c.put_between.ensures)
