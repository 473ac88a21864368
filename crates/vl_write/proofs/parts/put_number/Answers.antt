use Rattle.std.proofs.Common.{◌∙◌}
use Rattle.vl_write.proofs.Puts.{puts-as}
use Rattle.vl_write.proofs.parts.put_number.Goals as goal

pub returns : goal.returns
returns c = puts-as (c.as_bytes.ensures.value ∙ c.format.ensures.text) c.put.ensures
