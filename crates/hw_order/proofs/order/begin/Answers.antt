use Rattle.std.proofs.Common.{ℕ, arith, subst}
use Rattle.hw_order.specs.inner.NetOrder.{Serves}
use Rattle.hw_order.proofs.NetOrder.{closed-more}
use Rattle.hw_order.proofs.order.begin.Goals as goal

pub loop-k-preserved : goal.loop-k-preserved
loop-k-preserved c =
    let ens = c.in_ok-visit.ensures in
    record {
      growing = ens.visited.growing;
      closed = closed-more c.args.nets.now c.loop-k.order.items c.visit.new.order.items c.loop-k.ranks
          c.visit.new.ranks c.loop-k.invariant.growing ens.visited.growing ens.visited.longer ens.visited.kept 0
          c.loop-k.k (omega arith) c.loop-k.invariant.closed
          (subst (λ (x : ℕ). Serves c.args.nets.now c.loop-k.ranks c.visit.new.ranks x) c.in-Ok.ensures.1 ens.placed);
    }
