use Rattle.vl_ast.proofs.Listings.{none-put}
use Rattle.vl_emit.specs.inner.Ready.{net_items}
use Rattle.vl_emit.proofs.Lists.{loop-step}
use Rattle.vl_emit.proofs.items.put_nets.Goals as goal

pub loop-own-init : goal.loop-own-init
loop-own-init c = none-put c.args.out.now

pub loop-own-preserved : goal.loop-own-preserved
loop-own-preserved c = loop-step (net_items c.args.source c.args.part) c.loop-own.own c.loop-own.invariant c.put_net.ensures
