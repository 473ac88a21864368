use Rattle.mdl_build.proofs.ExpandedFilters.{filters_stand}
use Rattle.mdl_build.proofs.laws.filters_stand.Goals as goal

pub returns : goal.returns
returns c = filters_stand c.values_are_one.ensures c.blocks_are_counted.ensures
