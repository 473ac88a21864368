use Rattle.vl_ast.proofs.Listings.{both}
use Rattle.st_wrap.proofs.control.put_signals.Goals as goal

pub returns : goal.returns
returns c =
    let due = c.binary-due.ensures _ _ c.name_of.ensures c.is_zero-waited.ensures in
    let handshake = both (c.assign-6.ensures _ c.binary_of_names-moves.ensures) (both (c.assign-7.ensures _ c.binary_of_names-ready.ensures) (c.assign-8.ensures _ c.binary_of_names-valid.ensures)) in
    both (c.assign.ensures _ c.is_zero.ensures)
    (both (c.assign-2.ensures _ c.with_number-last.ensures)
    (both (c.assign-3.ensures _ due) (both (c.assign-4.ensures _ c.unless-fed.ensures)
    (both (c.assign-5.ensures _ c.unless-open.ensures) handshake))))
