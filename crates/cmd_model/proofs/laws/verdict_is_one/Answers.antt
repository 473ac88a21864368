use Rattle.cmd_model.proofs.OneVerdict.{one_verdict, one_broken, one_line}
use Rattle.cmd_model.proofs.laws.verdict_is_one.Goals as goal

pub returns-clause-one : goal.returns-clause-one
returns-clause-one c = one_verdict c.each_is_one.ensures

pub returns-clause-broken : goal.returns-clause-broken
returns-clause-broken c = one_broken c.each_is_one.ensures

pub returns-clause-line : goal.returns-clause-line
returns-clause-line c = one_line c.each_is_one.ensures
