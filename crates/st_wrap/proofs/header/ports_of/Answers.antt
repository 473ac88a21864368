use Rattle.vl_ast.proofs.Listings.{both, has-more}
use Rattle.st_wrap.proofs.header.ports_of.Goals as goal

pub returns : goal.returns
returns c =
    let shown = both c.put_data_port-2.ensures (both c.put_data_port-3.ensures (both c.put_data_port-4.ensures c.put_columns-2.ensures)) in
    let put = both c.put_bit_port.ensures (both c.put_bit_port-2.ensures (both c.put_data_port.ensures (both c.put_columns.ensures shown))) in
    has-more c.begin-out.ensures put
