use Rattle.std.proofs.Common.{sym}
use Rattle.dg_tables.proofs.Drivers.{source_there}
use Rattle.dg_tables.proofs.reading.width_of_input.Goals as goal

pub width-requires-clause-port : goal.width-requires-clause-port
width-requires-clause-port c = (source_there c.args.checked.now.diagram c.keeps_rules.ensures.checked c.args.block c.args.port c.in-Some.edge (sym c.in-Some.ensures)).0

pub width-requires-clause-there : goal.width-requires-clause-there
width-requires-clause-there c = (source_there c.args.checked.now.diagram c.keeps_rules.ensures.checked c.args.block c.args.port c.in-Some.edge (sym c.in-Some.ensures)).1
