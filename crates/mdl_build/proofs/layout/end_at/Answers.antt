use Rattle.mdl_build.proofs.Ends.{end_leap}
use Rattle.mdl_build.proofs.layout.end_at.Goals as goal

pub loop-end-preserved : goal.loop-end-preserved
loop-end-preserved c =
    end_leap c.args.items.now c.args.depth c.args.place c.loop-end.end _ _ c.index-items-end.result
    c.loop-end.invariant.0 c.loop-end-test.true c.if-items-end.true
    (c.requires.known c.loop-end.end c.loop-end.invariant.0 c.loop-end-test.true) c.loop-end.invariant.2
