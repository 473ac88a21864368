use Rattle.dg_rules.proofs.TwoCycles.{cycles_differ}
use Rattle.dg_rules.proofs.laws.cycles_differ.Goals as goal

pub returns : goal.returns
returns c = cycles_differ
