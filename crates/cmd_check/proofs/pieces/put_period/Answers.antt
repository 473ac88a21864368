use Rattle.cmd_check.proofs.PieceBytes.{adds_as}
use Rattle.cmd_check.proofs.PieceTexts.{no_period, some_period}
use Rattle.cmd_check.proofs.pieces.put_period.Goals as goal

pub returns-in-Some : goal.returns-in-Some
returns-in-Some g c = adds_as (some_period c.args.period c.in-Some.period c.from.result c.in-Some.is c.from.ensures) c.put_named.ensures

pub returns-in-None : goal.returns-in-None
returns-in-None g c = adds_as (no_period c.args.period c.in-None.is) c.put.ensures
