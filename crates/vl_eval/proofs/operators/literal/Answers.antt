use Rattle.vl_eval.proofs.Rooms.{masks}
use Rattle.vl_eval.proofs.operators.literal.Goals as goal

pub overflow_sub-result : goal.overflow_sub-result
overflow_sub-result c = masks c.args.number.now.width c.args.width c.mask_of-then-bits-half_of.result c.mask_of.result c.requires.longer c.mask_of-then-bits-half_of.ensures c.mask_of.ensures
