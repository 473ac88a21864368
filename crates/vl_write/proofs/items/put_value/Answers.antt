use Rattle.vl_write.proofs.Puts.{both}
use Rattle.vl_write.proofs.items.put_value.Goals as goal

pub returns : goal.returns
returns c = both c.put.ensures c.put_within.ensures
