use Rattle.hw_sched.proofs.Widths.{first_there}
use Rattle.hw_sched.proofs.drivers.own_width.Goals as goal

pub width-requires-clause-there : goal.width-requires-clause-there
width-requires-clause-there c = first_there c.args.checked.now.diagram c.keeps_rules.ensures.checked c.args.place c.requires.there
