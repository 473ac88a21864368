use Rattle.vl_write.proofs.Puts.{both}
use Rattle.vl_write.proofs.expressions.put_amount.Goals as goal

pub returns : goal.returns
returns c = both c.put.ensures (both c.put-2.ensures (both c.put_sized.ensures c.put-3.ensures))
