use Rattle.std.proofs.Common.{◌∙◌}
use Rattle.cmd_check.proofs.PieceBytes.{adds_as, both}
use Rattle.cmd_check.proofs.PieceTexts.{named_is}
use Rattle.cmd_check.proofs.pieces.put_named.Goals as goal

pub returns : goal.returns
returns g c = adds_as (named_is c.args.word.now c.as_bytes.result.now c.args.number (c.as_bytes.ensures.value ∙ c.format.ensures.text)) (both c.put.ensures c.put-2.ensures)
