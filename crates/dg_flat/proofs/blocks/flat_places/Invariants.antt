use Rattle.std.proofs.Common.{◌≡◌}
use Rattle.dg_flat.specs.Flat.{flat_place}
use Rattle.dg_flat.specs.inner.Tables.{IsTable}
use Rattle.dg_flat.proofs.blocks.flat_places.Given as goal

abbrev pub invariant-loop-block : goal.invariant-loop-block
invariant-loop-block l = record {
  next : l.next ≡ flat_place l.blocks l.block-index;
  places : IsTable l.block-index (flat_place l.blocks) l.places.items;
}
