use Rattle.std.proofs.Common.{◌≡◌, ◌<◌, ◌++◌, All, length, drop}
use Rattle.dg_sort.specs.inner.Search.{least_of, placed_marks}
use Rattle.dg_sort.proofs.search.place_blocks.Given as goal

abbrev pub invariant-loop-block : goal.invariant-loop-block
invariant-loop-block l = record {
  there : All (λ block. block < length l.marks.items) l.blocks;
  marks : placed_marks l.rank (drop l.block-index l.blocks) l.marks.items ≡ placed_marks l.rank l.blocks l.fn.marks.items;
  order : l.order.items ++ drop l.block-index l.blocks ≡ l.fn.order.items ++ l.blocks;
  first : least_of l.is_cycle (drop l.block-index l.blocks) l.least ≡ least_of l.is_cycle l.blocks l.fn.first;
}
