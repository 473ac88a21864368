use Rattle.hw_build.specs.inner.HubPlaces.{AddsBlocks}
use Rattle.hw_build.proofs.hubs.put_blocks.Given as goal

abbrev pub invariant-loop-block : goal.invariant-loop-block
invariant-loop-block l = AddsBlocks l.checked.diagram l.fn.net l.net l.columns l.firsts l.block
