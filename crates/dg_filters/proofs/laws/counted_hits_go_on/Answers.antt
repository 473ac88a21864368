use Rattle.dg_filters.proofs.Hits.{counted_go_on}
use Rattle.dg_filters.proofs.laws.counted_hits_go_on.Goals as goal

pub returns : goal.returns
returns c = counted_go_on
