use Rattle.vl_ast.proofs.Listings.{both}
use Rattle.st_wrap.proofs.control.declare.Goals as goal

pub returns : goal.returns
returns c =
    both c.declare_net.ensures (both c.declare_net-2.ensures
    (both c.declare_net-3.ensures (both c.declare_net-4.ensures
    (both c.declare_net-5.ensures (both c.declare_net-6.ensures c.declare_net-7.ensures)))))
