use Rattle.std.proofs.Common.{◌≡◌, take}
use Rattle.dg_types.specs.inner.WidthShapes.{all_first}
use Rattle.dg_types.proofs.scanning.all_first.Given as goal

abbrev pub invariant-loop-block : goal.invariant-loop-block
invariant-loop-block l = l.first.items ≡ all_first (take l.block-index l.blocks)
