use Rattle.dg_tables.proofs.BetweenHits.{entries_stay}
use Rattle.dg_tables.proofs.laws.entries_stay.Goals as goal

pub returns : goal.returns
returns c = entries_stay
