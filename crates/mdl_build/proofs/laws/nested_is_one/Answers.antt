use Rattle.mdl_build.proofs.OneNested.{one_nested}
use Rattle.mdl_build.proofs.laws.nested_is_one.Goals as goal

pub returns : goal.returns
returns c = one_nested c.values_are_one.ensures
