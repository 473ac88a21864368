use Rattle.hw_build.specs.inner.HubPlaces.{hub_start}
use Rattle.hw_build.specs.inner.ElementLoop.{Reaches}
use Rattle.hw_build.proofs.blocks.put_elements.Given as goal

abbrev pub invariant-loop-block : goal.invariant-loop-block
invariant-loop-block l = Reaches l.setting l.net (hub_start l.setting.design.checked.now.diagram l.block)
