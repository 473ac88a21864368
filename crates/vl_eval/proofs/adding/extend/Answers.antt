use Rattle.vl_eval.proofs.Rooms.{masks}
use Rattle.vl_eval.proofs.adding.extend.Goals as goal

pub overflow_sub-fill : goal.overflow_sub-fill
overflow_sub-fill c = masks c.args.from c.args.to c.mask_of-2.result c.mask_of.result c.requires.longer c.mask_of-2.ensures c.mask_of.ensures
