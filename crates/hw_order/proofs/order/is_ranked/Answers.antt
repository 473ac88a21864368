use Rattle.hw_order.proofs.NetOrder.{all-now-there}
use Rattle.hw_order.proofs.order.is_ranked.Goals as goal

pub are_ordered-requires-clause-there : goal.are_ordered-requires-clause-there
are_ordered-requires-clause-there c = all-now-there c.args.nets.now c.requires
