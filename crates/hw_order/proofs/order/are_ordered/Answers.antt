use Rattle.hw_order.proofs.NetOrder.{all-ranked, all-some}
use Rattle.hw_order.proofs.order.are_ordered.Goals as goal

pub returns : goal.returns
returns c =
    let nets = c.args.nets.now in
    let order = c.in_ok-_order._order.items in
    let ranks = c.rank_nets.new.ranks in
    let growing = c.in_ok-_order.ensures.growing in (
      λ yes. all-ranked nets order ranks growing (c.are_some.ensures.0 yes),
      λ is. c.are_some.ensures.1 (all-some nets order ranks growing c.in_ok-_order.ensures.closed c.requires.there is.0 is.1),
    )
