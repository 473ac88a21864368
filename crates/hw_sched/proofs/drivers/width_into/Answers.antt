use Rattle.hw_sched.proofs.Widths.{driver_width}
use Rattle.hw_sched.proofs.drivers.width_into.Goals as goal

pub width-requires-clause-port : goal.width-requires-clause-port
width-requires-clause-port c = (driver_width c.args.checked.now.diagram c.keeps_rules.ensures.checked c.args.place 1 c.in-Some.line c.in-Some.ensures).0

pub width-requires-clause-there : goal.width-requires-clause-there
width-requires-clause-there c = (driver_width c.args.checked.now.diagram c.keeps_rules.ensures.checked c.args.place 1 c.in-Some.line c.in-Some.ensures).1
