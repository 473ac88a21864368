use Rattle.hw_build.proofs.StepNeeds.{ports_finish}
use Rattle.std.proofs.lemmas.Result.{on_ok_weaker}
use Rattle.hw_build.proofs.building.put_ports.Goals as goal

pub returns-in-Ok : goal.returns-in-Ok
returns-in-Ok c =
    on_ok_weaker c.put_outputs-put.result
    (λ put. ports_finish c.args.design c.args.net.now c.put_inputs.new.net c.put_outputs-put.new.net
    c.args.firsts.now c.args.inputs.now c.args.outputs.now c.in_ok-names.names c.put_inputs.new.names
    c.put_outputs-put.new.names c.requires.can.designed c.root_elements_are_listed.ensures.inputs
    c.root_elements_are_listed.ensures.outputs
    c.periods_are_above.ensures.moving c.periods_are_above.ensures.above c.periods_are_above.ensures.short
    c.requires.can.small c.requires.filled c.requires.inputs c.requires.outputs c.in_ok-names.ensures
    c.in-Ok.ensures put)
    c.put_outputs-put.ensures
