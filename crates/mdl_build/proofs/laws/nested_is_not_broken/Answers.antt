use Rattle.mdl_build.proofs.OneFault.{not_broken}
use Rattle.mdl_build.proofs.laws.nested_is_not_broken.Goals as goal

pub returns : goal.returns
returns c = not_broken c.values_are_one.ensures
