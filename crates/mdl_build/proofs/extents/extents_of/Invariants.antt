use Rattle.std.specs.List.{AllZip}
use Rattle.mdl_build.specs.Extents.{IsExtentAt}
use Rattle.mdl_build.specs.inner.Names.{blocks_before}
use Rattle.mdl_build.proofs.extents.extents_of.Given as goal

abbrev pub invariant-loop-place : goal.invariant-loop-place
invariant-loop-place l = AllZip (IsExtentAt l.layout.items.now) (blocks_before l.layout.items.now l.place) l.extents.items
