use Rattle.mdl_values.proofs.PeriodLemmas.{zero_known, zero_unknown}
use Rattle.mdl_values.proofs.periods.is_zero.Goals as goal

pub returns-in-Some : goal.returns-in-Some
returns-in-Some c = zero_known c.args.text.now c.in-Some.value c.in-Some.ensures

pub returns-in-None : goal.returns-in-None
returns-in-None c = zero_unknown c.args.text.now c.in-None.ensures
