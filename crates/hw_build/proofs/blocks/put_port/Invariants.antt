use Rattle.std.specs.Prelude.{◌+◌, ◌-◌}
use Rattle.hw_build.specs.inner.ElementLoop.{Reaches, port_start}
use Rattle.hw_build.proofs.blocks.put_port.Given as goal

abbrev pub invariant-loop-element : goal.invariant-loop-element
invariant-loop-element l = Reaches l.owner.setting l.net (port_start l.owner.setting.design.checked.now.diagram l.owner.block l.owner.one.now (l.port - 1) + l.element)
