use Rattle.std.proofs.Common.{◌∙◌, ap, w16}
use Rattle.std.specs.Fmt.{signed_decimal}
use Rattle.std.proofs.lemmas.Int.{to_z-of_z}
use Rattle.cmd_check.proofs.PieceBytes.{adds_as, both}
use Rattle.cmd_check.proofs.PieceTexts.{num_is}
use Rattle.cmd_check.proofs.pieces.put_num.Goals as goal

pub returns : goal.returns
returns g c =
    adds_as (num_is c.args.signed c.args.width c.from.result c.args.frac c.front_of.result.now c.as_bytes.result.now
    c.front_of.ensures c.from.ensures (c.as_bytes.ensures.value ∙ c.format.ensures.text
    ∙ ap signed_decimal (to_z-of_z w16 c.args.frac c.ranges.frac)))
    (both (both (both c.put_named.ensures c.put.ensures) c.put-2.ensures) c.put-3.ensures)
