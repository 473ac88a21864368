use Rattle.mdl_build.specs.inner.Makers.{AreMade, items_of}
use Rattle.mdl_build.proofs.building.put_blocks.Given as goal

abbrev pub invariant-loop-place : goal.invariant-loop-place
invariant-loop-place l = AreMade (items_of l.maker) l.place-index l.blocks
