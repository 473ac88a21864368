use Rattle.std.proofs.Common.{ℕ, All, subst, arith}
use Rattle.hw_net.specs.Netlist.{reads_now}
use Rattle.hw_order.specs.inner.NetOrder.{IsReader}
use Rattle.hw_order.proofs.NetOrder.{linked-more}
use Rattle.hw_order.proofs.order.link_nets.Goals as goal

pub loop-k-preserved : goal.loop-k-preserved
loop-k-preserved c =
    linked-more c.args.nets.now c.loop-k.readers c.link_net.new.readers c.loop-k.k c.index-nets-k.result (omega arith) c.index-nets-k.is c.loop-k.invariant c.in_ok-link_net.ensures.grows
    (subst (λ (x : ℕ). All (λ (read : ℕ). IsReader c.link_net.new.readers read x) (reads_now c.index-nets-k.result.kind)) c.in-Ok.ensures.1 c.in_ok-link_net.ensures.knows)
