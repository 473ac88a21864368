use Rattle.std.proofs.Common.{arith}
use Rattle.vl_eval.proofs.sparing.sweep_marked.Goals as goal

pub index-requires : goal.index-requires
index-requires c =
    let now = c.loop-block.invariant.marks.blocks in
    omega (arith, c.loop-block-test.true, c.len-block-end.ensures, c.args.marks.now.blocks.ok.0, c.requires.marks.blocks, now, c.loop-block.marks.blocks.ok.0)
