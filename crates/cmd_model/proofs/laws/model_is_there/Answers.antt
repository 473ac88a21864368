use Rattle.cmd_model.proofs.SomeVerdict.{some_model}
use Rattle.cmd_model.proofs.laws.model_is_there.Goals as goal

pub returns : goal.returns
returns c = some_model c.nested_is_there.ensures c.flat_is_there.ensures c.rule_is_there.ensures
