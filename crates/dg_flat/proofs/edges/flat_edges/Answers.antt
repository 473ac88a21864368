use Rattle.dg_flat.proofs.edges.flat_edges.Goals as goal

pub returns-clause-same : goal.returns-clause-same
returns-clause-same c = rw (c.from_vec.ensures, ← c.in_ok-edges.ensures) c.in_ok-put_in_order.ensures.same

pub returns-clause-ordered : goal.returns-clause-ordered
returns-clause-ordered c = rw c.from_vec.ensures c.in_ok-put_in_order.ensures.ordered
