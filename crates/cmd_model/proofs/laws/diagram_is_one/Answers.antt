use Rattle.cmd_model.proofs.OneVerdict.{one_model}
use Rattle.cmd_model.proofs.laws.diagram_is_one.Goals as goal

pub returns : goal.returns
returns c = one_model c.unique.ensures c.nested_is_one.ensures c.flat_is_one.ensures
