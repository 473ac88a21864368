use Rattle.std.proofs.Common.{length, take}
use Rattle.dg_types.specs.inner.Build.{Gathered, Known}
use Rattle.dg_types.specs.inner.WidthShapes.{source_of}
use Rattle.dg_types.proofs.build.put_links.Given as goal

abbrev pub invariant-loop-edge : goal.invariant-loop-edge
invariant-loop-edge l = record {
  sources : Gathered (length l.blocks) (source_of l.blocks) (take l.edge-index l.edges) l.sources.items;
  readers : Known (length l.blocks) 0 (take l.edge-index l.edges) l.readers.items;
}

abbrev pub invariant-loop-place : goal.invariant-loop-place
invariant-loop-place l = Known (length l.blocks) l.place l.edges l.readers.items
