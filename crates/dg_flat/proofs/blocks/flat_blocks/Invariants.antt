use Rattle.std.proofs.Common.{◌≡◌, take}
use Rattle.std.specs.List.{enumerate_from, filter_map}
use Rattle.dg_flat.specs.Flat.{flat_block}
use Rattle.dg_flat.specs.Parts.{control_of}
use Rattle.dg_flat.proofs.blocks.flat_blocks.Given as goal

abbrev pub invariant-loop-block : goal.invariant-loop-block
invariant-loop-block l = l.flat ≡ filter_map (λ (place, block). flat_block l.blocks place (control_of l.blocks block.parent) block.part) (enumerate_from 0 (take l.block-index l.blocks))
