use Rattle.std.proofs.lemmas.Result.{on_ok_weaker}
use Rattle.hw_fold.proofs.Result.{can-still, folded-of, labels-below}
use Rattle.hw_fold.proofs.folding.find_roots.Goals as goal

pub pin-requires-clause-labels : goal.pin-requires-clause-labels
pin-requires-clause-labels c = rw (c.labels.ensures, c.nets-nets.ensures) (labels-below c.args.netlist.now c.requires.emittable)

pub settle_all-requires-clause-begun : goal.settle_all-requires-clause-begun
settle_all-requires-clause-begun c =
    let ens = c.pin.ensures in
    rw c.nets-nets.ensures (can-still c.args.netlist.now.nets c.args.own.now c.args.alone.now c.pin.new.own c.pin.new.alone c.args.roots.now c.args.done.now ens.own ens.alone c.requires.begun)

pub returns : goal.returns
returns c =
    let pinned = rw (c.nets-nets.ensures, c.labels.ensures) at c.pin.ensures.pinned in
    on_ok_weaker c.settle_all.result
    (λ settled. folded-of c.args.netlist.now c.in_ok-order.order.items c.in_ok-order.ensures c.pin.new.own c.pin.new.alone c.settle_all.new.roots c.settle_all.new.done settled pinned)
    (rw (c.nets-nets.ensures, c.as_slice.ensures.value) at c.settle_all.ensures)
