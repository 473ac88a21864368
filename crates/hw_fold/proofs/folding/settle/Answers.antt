use Rattle.std.proofs.Common.{arith}
use Rattle.hw_fold.specs.inner.Roots.{fold_of}
use Rattle.hw_fold.proofs.Standings.{pinned-still, settled}
use Rattle.hw_fold.proofs.folding.settle.Goals as goal

pub returns-clause-folding : goal.returns-clause-folding
returns-clause-folding c = λ rank folding.
    let can = c.requires.ready in
    settled rank (fold_of c.args.nets.now c.args.alone.now c.args.roots.now c.args.done.now) c.args.k can.inside folding can.absent c.args.own.now c.in_ok-other.other c.in_ok-other.ensures

pub returns-clause-pinned : goal.returns-clause-pinned
returns-clause-pinned c = λ pinned.
    let can = c.requires.ready in
    let long = can.sizes.roots in
    pinned-still c.args.own.now (fold_of c.args.nets.now c.args.alone.now c.args.roots.now c.args.done.now) c.args.k c.in_ok-other.other (omega (arith, can.inside, long)) c.in_ok-other.ensures pinned
