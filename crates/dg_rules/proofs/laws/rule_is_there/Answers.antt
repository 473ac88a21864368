use Rattle.dg_rules.proofs.SomeRule.{some_rule}
use Rattle.dg_rules.proofs.laws.rule_is_there.Goals as goal

pub returns : goal.returns
returns c = some_rule
