use Rattle.vl_ast.proofs.Listings.{both}
use Rattle.st_wrap.proofs.control.drive.Goals as goal

pub returns : goal.returns
returns c =
    let more = c.choose.ensures _ _ _ c.name_of-end.ensures c.number.ensures c.with_number-more.ensures in
    let fewer = c.choose-2.ensures _ _ _ c.name_of-left.ensures c.with_number-fewer.ensures c.number-2.ensures in
    let phase = c.put_register.ensures _ _ _ _ c.plain.ensures c.copy.ensures c.name_of.ensures more in
    let wait = c.put_register-2.ensures _ _ _ _ c.plain-2.ensures c.copy-2.ensures c.moving.ensures fewer in
    both c.put_signals.ensures (both phase wait)
