use Rattle.hw_sched.proofs.Widths.{driver_there}
use Rattle.hw_sched.proofs.drivers.period_into.Goals as goal

pub period-requires : goal.period-requires
period-requires c = driver_there c.args.checked.now.diagram c.keeps_rules.ensures.checked c.args.place 1 c.in-Some.line c.in-Some.ensures
