use Rattle.hw_build.specs.inner.ElementLoop.{Reaches, port_start}
use Rattle.hw_build.proofs.blocks.put_ports.Given as goal

abbrev pub invariant-loop-port : goal.invariant-loop-port
invariant-loop-port l = Reaches l.owner.setting l.net (port_start l.owner.setting.design.checked.now.diagram l.owner.block l.owner.one.now l.port)
