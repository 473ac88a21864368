use Rattle.std.proofs.Common.{arith}
use Rattle.dg_tables.proofs.Widths.{outputs_there}
use Rattle.dg_tables.proofs.reading.width_of_output.Goals as goal

pub width-requires-clause-there : goal.width-requires-clause-there
width-requires-clause-there c =
    let from = c.requires.2 in
    let to = c.requires.3 in
    omega (arith, from, to, outputs_there c.args.checked.now.diagram c.keeps_rules.ensures.checked.wired c.keeps_rules.ensures.checked.dimensions c.args.block c.requires.0 c.requires.1)
