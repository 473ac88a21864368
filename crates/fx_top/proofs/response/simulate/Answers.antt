use Rattle.std.proofs.Common.{refl}
use Rattle.fx_top.specs.Call.{stream_in}
use Rattle.fx_top.proofs.Simulations.{simulation-put}
use Rattle.fx_top.proofs.response.simulate.Goals as goal

pub returns-in-Err : goal.returns-in-Err
returns-in-Err g c = (c.of_model.ensures.simulation c.args.model.now c.args.stimulus.now c.in-Err.ensures.refused, refl)

pub returns-in-Ok-simulation_in : goal.returns-in-Ok-simulation_in
returns-in-Ok-simulation_in g c =
    simulation-put c.in-Ok.checked c.args.model.now c.args.stimulus.now c.in-Ok-simulation_in.simulation (stream_in g.K.Sink.taken g.K.Sink.faults c.args.out.now c.put_response-put.new.out)
    c.in-Ok.ensures.made c.in-Ok-simulation_in.ensures.made c.put_response-put.result c.put_response-put.ensures.whole c.put_response-put.ensures.cut c.put_response-put.ensures.cause

pub returns-in-Err-simulation_in : goal.returns-in-Err-simulation_in
returns-in-Err-simulation_in g c =
    (c.of_stimulus.ensures c.args.model.now c.args.stimulus.now c.in-Ok.checked.diagram c.in-Ok.ensures.made c.in-Err-simulation_in.ensures.refused, refl)
