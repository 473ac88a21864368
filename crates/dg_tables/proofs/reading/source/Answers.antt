use Rattle.dg_tables.proofs.Drivers.{source_there}
use Rattle.dg_tables.proofs.reading.source.Goals as goal

pub width-width-requires-clause-port : goal.width-width-requires-clause-port
width-width-requires-clause-port c = (source_there c.args.checked.now.diagram c.keeps_rules.ensures.checked c.requires.0 c.requires.1 c.args.edge c.requires.2).0

pub width-width-requires-clause-there : goal.width-width-requires-clause-there
width-width-requires-clause-there c = (source_there c.args.checked.now.diagram c.keeps_rules.ensures.checked c.requires.0 c.requires.1 c.args.edge c.requires.2).1
