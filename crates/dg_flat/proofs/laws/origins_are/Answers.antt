use Rattle.dg_flat.proofs.Origins.{origins_are, origins_differ}
use Rattle.dg_flat.proofs.laws.origins_are.Goals as goal

pub returns-clause-come : goal.returns-clause-come
returns-clause-come c = origins_are

pub returns-clause-differ : goal.returns-clause-differ
returns-clause-differ c = origins_differ
