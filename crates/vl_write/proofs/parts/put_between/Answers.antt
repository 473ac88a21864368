use Rattle.std.proofs.Common.{◌++◌, ap, decimal}
use Rattle.vl_write.proofs.Puts.{both, puts-as}
use Rattle.vl_write.proofs.parts.put_between.Goals as goal

pub returns : goal.returns
returns c =
    puts-as (ap (λ n. c.args.before.now ++ (decimal n ++ c.args.after.now)) c.from.ensures)
    (both c.put.ensures (both c.put_number.ensures c.put-2.ensures))
