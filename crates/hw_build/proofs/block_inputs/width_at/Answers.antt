use Rattle.std.proofs.Common.{sym}
use Rattle.hw_sched.proofs.Widths.{driver_width}
use Rattle.hw_build.proofs.block_inputs.width_at.Goals as goal

pub width-requires-clause-port : goal.width-requires-clause-port
width-requires-clause-port c = (driver_width c.args.checked.now.diagram c.keeps_rules.ensures.checked c.args.block c.args.port c.line_into-line.result (sym c.line_into-line.ensures)).0

pub width-requires-clause-there : goal.width-requires-clause-there
width-requires-clause-there c = (driver_width c.args.checked.now.diagram c.keeps_rules.ensures.checked c.args.block c.args.port c.line_into-line.result (sym c.line_into-line.ensures)).1
