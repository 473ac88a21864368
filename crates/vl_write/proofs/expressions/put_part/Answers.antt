use Rattle.std.proofs.Common.{codes, decimal}
use Rattle.vl_write.proofs.Puts.{both, part-left, puts-as}
use Rattle.vl_write.proofs.expressions.put_part.Goals as goal

pub returns : goal.returns
returns c =
    puts-as (part-left c.args.name.now (codes " [") (decimal c.args.high) (codes ":") (decimal c.args.low) (codes "]"))
    (both c.put.ensures (both c.put_between.ensures c.put_between-2.ensures))
