use Rattle.dg_sim.proofs.Start.{begun_sim, begun_stands}
use Rattle.dg_sim.proofs.sim.Sim.new.Goals as goal

pub returns-in-Ok-clause-sim : goal.returns-in-Ok-clause-sim
returns-in-Ok-clause-sim c =
    let beginning = c.in-Ok.beginning in
    begun_sim c.args.checked.now c.in_ok-program.program beginning.row.items beginning.pasts.items
    beginning.prepared.items c.in_ok-program.ensures c.in-Ok.ensures.rooms c.in-Ok.ensures.row
    c.in-Ok.ensures.ready

pub returns-in-Ok-clause-stands : goal.returns-in-Ok-clause-stands
returns-in-Ok-clause-stands c =
    let beginning = c.in-Ok.beginning in
    begun_stands c.args.checked.now c.in_ok-program.program beginning.row.items beginning.pasts.items beginning.prepared.items c.in_ok-program.ensures c.in-Ok.ensures.rooms
