use Rattle.cmd_check.specs.CheckText.{step_text}
use Rattle.cmd_check.proofs.PieceBytes.{adds_as, both}
use Rattle.cmd_check.proofs.OutputLines.{next_of}
use Rattle.cmd_check.proofs.PieceTexts.{step_is}
use Rattle.cmd_check.proofs.outputs.put_steps.Goals as goal

pub loop-block-preserved : goal.loop-block-preserved
loop-block-preserved g c =
    adds_as (next_of (step_text c.args.checked.now.diagram) c.args.path.now c.loop-block.block-index _ c.loop-block-test.true) (both c.loop-block.invariant
    (adds_as (step_is c.args.checked.now.diagram _ c.block_at.result.now c.block_at.ensures) (both c.put.ensures c.put_path.ensures)))
