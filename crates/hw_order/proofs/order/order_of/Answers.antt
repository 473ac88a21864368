use Rattle.std.proofs.Common.{length, List}
use Rattle.hw_net.specs.declared.netlist.Net.{Net}
use Rattle.hw_order.specs.Order.{IsOrder}
use Rattle.hw_order.specs.inner.NetOrder.{IsGrowing, IsClosed}
use Rattle.math_list.proofs.Places.{if-both}
use Rattle.hw_order.proofs.NetOrder.{order-of, all-now-there}
use Rattle.hw_order.proofs.order.order_of.Goals as goal

pub rank_nets-requires-clause-there : goal.rank_nets-requires-clause-there
rank_nets-requires-clause-there c = rw c.nets-nets.ensures (all-now-there c.args.net.now.nets c.requires.there)

pub returns : goal.returns
returns c =
    let nets : List Net = c.args.net.now.nets in
    let there = all-now-there nets c.requires.there in
    if-both (λ order. IsGrowing nets order.items c.rank_nets.new.ranks)
    (λ order. IsClosed nets c.rank_nets.new.ranks (length order.items) (length nets))
    (λ order. IsOrder nets order.items) c.rank_nets.result
    (rw c.nets-nets.ensures at c.rank_nets.ensures.growing) (rw c.nets-nets.ensures at c.rank_nets.ensures.closed)
    (λ order growing closed. order-of nets order.items c.rank_nets.new.ranks growing closed there c.requires.ranked.0 c.requires.ranked.1)
