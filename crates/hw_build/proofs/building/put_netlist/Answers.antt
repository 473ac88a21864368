use Rattle.std.proofs.Common.{ap, length, subst}
use Rattle.hw_net.specs.Circuit.{Circuit}
use Rattle.hw_build.specs.inner.HubPlaces.{HasHubs}
use Rattle.hw_build.proofs.building.put_netlist.Goals as goal

pub hubs_of-requires-clause-none : goal.hubs_of-requires-clause-none
hubs_of-requires-clause-none c = ap (λ (netlist : Circuit). length netlist.nets) c.requires.empty

pub hubs_of-requires-clause-are : goal.hubs_of-requires-clause-are
hubs_of-requires-clause-are c = c.requires.inputs

pub put_nets-requires-clause-can : goal.put_nets-requires-clause-can
put_nets-requires-clause-can c = c.requires.can

pub put_nets-requires-clause-hubs : goal.put_nets-requires-clause-hubs
put_nets-requires-clause-hubs c = subst (λ (earlier : Circuit). HasHubs c.args.design.checked.now.diagram earlier c.hubs_of.new.net c.in_ok-firsts.firsts) c.requires.empty c.in_ok-firsts.ensures

pub put_ports-put-requires-clause-filled : goal.put_ports-put-requires-clause-filled
put_ports-put-requires-clause-filled c = c.in-Ok.ensures

pub returns-in-Ok : goal.returns-in-Ok
returns-in-Ok c = c.put_ports-put.ensures
