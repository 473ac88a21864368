use Rattle.std.proofs.Common.{ap, map}
use Rattle.std.proofs.lemmas.List.{take_all}
use Rattle.vl_ast.proofs.Listings.{holds-as, one-held}
use Rattle.vl_hier.specs.Linked.{head_of}
use Rattle.vl_hier.proofs.unlinked.heads_of.Goals as goal

pub loop-one-init : goal.loop-one-init
loop-one-init c = c.begin-out.ensures

pub loop-one-preserved : goal.loop-one-preserved
loop-one-preserved c =
    one-held c.args.instances.now c.loop-one.one-index c.one-item.result c.loop-one-test.true c.one-item.is head_of c.loop-one.invariant (c.put.ensures _ c.head_of.ensures)

pub returns : goal.returns
returns c =
    let i = c.loop-one.one-index in
    let all = c.args.instances.now in
    c.finish.ensures (map head_of all) (holds-as (ap (map head_of) (take_all i all c.loop-one-test.false)) c.loop-one.invariant)
