use Rattle.std.proofs.Common.{below_more, arith, slice_index}
use Rattle.std.proofs.lemmas.Grind.{get_or_default_zero}
use Rattle.hw_order.proofs.NetOrder.{visits-none, visits-trans, serves-on, serves-still}
use Rattle.hw_order.proofs.order.visit_all.Goals as goal

pub loop-k-init : goal.loop-k-init
loop-k-init c = record { visited = visits-none c.args.nets.now c.args.order.now.items c.args.ranks.now c.requires.growing; placed = λ j less. absurd (omega (arith, less)) }

pub loop-k-preserved : goal.loop-k-preserved
loop-k-preserved c =
    let inv = c.loop-k.invariant in
    let ens = c.in_ok-visit.ensures in
    record {
      visited = visits-trans c.args.nets.now c.args.order.now.items c.loop-k.order.items c.visit.new.order.items c.args.ranks.now c.loop-k.ranks c.visit.new.ranks inv.visited ens.visited;
      placed = below_more _ _ (λ j h. serves-still c.args.nets.now c.args.ranks.now c.loop-k.ranks c.visit.new.ranks (slice_index c.args.list.now j) ens.visited.kept (inv.placed j h))
          (serves-on c.args.nets.now c.args.ranks.now c.loop-k.ranks c.visit.new.ranks (slice_index c.args.list.now c.loop-k.k-index) inv.visited.kept ens.placed);
    }

pub returns-clause-placed : goal.returns-clause-placed
returns-clause-placed c = λ k d within. rw (get_or_default_zero c.args.list.now k d within) (c.loop-k.invariant.placed k (omega arith))
