use Rattle.hw_refine.proofs.Redirects.{redirects}
use Rattle.hw_refine.proofs.laws.redirects_refine.Goals as goal

pub returns : goal.returns
returns c = redirects
