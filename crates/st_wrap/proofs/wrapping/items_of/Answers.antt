use Rattle.vl_ast.proofs.Listings.{both, has-more}
use Rattle.st_wrap.proofs.wrapping.items_of.Goals as goal

pub returns : goal.returns
returns c =
    let declared = both c.put_wires.ensures (both c.declare.ensures (both c.put_parts.ensures c.put_parts-2.ensures)) in
    let driven = both c.drive.ensures (both c.put_parts-3.ensures c.put_parts-4.ensures) in
    has-more c.begin-out.ensures (both declared (both c.put_core.ensures driven))
