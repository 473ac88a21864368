use Rattle.dg_model.specs.Attributes.{attributes_of}
use Rattle.hw_build.specs.inner.HubPlaces.{AddsPorts, port_size}
use Rattle.hw_build.proofs.hubs.put_block.Given as goal

abbrev pub invariant-loop-port : goal.invariant-loop-port
invariant-loop-port l = AddsPorts l.fn.net l.net ((attributes_of l.checked.diagram).type_at l.block 1) (port_size l.checked.diagram l.block l.one) l.firsts l.port
