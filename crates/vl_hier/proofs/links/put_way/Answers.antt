use Rattle.std.proofs.Common.{ap, flat_map}
use Rattle.std.proofs.lemmas.List.{take_all}
use Rattle.vl_ast.proofs.Listings.{lists-as, none-put, one-more}
use Rattle.vl_hier.specs.inner.Puts.{link_items}
use Rattle.vl_hier.proofs.links.put_way.Goals as goal

pub loop-link-init : goal.loop-link-init
loop-link-init c = none-put c.args.out.now

pub loop-link-preserved : goal.loop-link-preserved
loop-link-preserved c =
    one-more c.args.links.now c.loop-link.link-index c.link-item.result c.loop-link-test.true c.link-item.is
    (link_items c.args.way c.args.ports.now c.args.head.now) c.loop-link.invariant c.put_link.ensures

pub returns : goal.returns
returns c = lists-as (ap (flat_map (link_items c.args.way c.args.ports.now c.args.head.now)) (take_all c.loop-link.link-index c.args.links.now c.loop-link-test.false)) c.loop-link.invariant
