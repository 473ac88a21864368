use Rattle.cmd_simulate.proofs.Simulations.{responds}
use Rattle.cmd_simulate.proofs.simulation.responding_to.Goals as goal

pub returns-clause-response : goal.returns-clause-response
returns-clause-response c =
    let checked = c.args.checked.now in
    responds c.some_response.ensures checked.diagram checked.order (record { checked = c.keeps_rules.ensures.checked; ordered = c.keeps_rules.ensures.ordered })
    c.args.columns.now c.args.rows.now c.requires.columns c.requires.count c.requires.fits
