use Rattle.mdl_build.specs.inner.Readings.{AreReadTo}
use Rattle.mdl_build.proofs.blocks.read_block.Given as goal

abbrev pub invariant-loop-number : goal.invariant-loop-number
invariant-loop-number l = AreReadTo l.layout.items.now l.fn.block_type l.place l.number l.settings
