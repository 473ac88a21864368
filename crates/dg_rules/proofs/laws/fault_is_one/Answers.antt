use Rattle.dg_rules.proofs.OneRule.{one_fault, one_told}
use Rattle.dg_rules.proofs.laws.fault_is_one.Goals as goal

pub returns-clause-one : goal.returns-clause-one
returns-clause-one c = one_fault

pub returns-clause-told : goal.returns-clause-told
returns-clause-told c = one_told
