use Rattle.std.proofs.Common.{◌≡◌, ◌≤◌, length}
use Rattle.mdl_build.specs.inner.Names.{AreNumbered, blocks_before}
use Rattle.mdl_build.proofs.names.Blocks.add_all.Given as goal

abbrev pub invariant-loop-place : goal.invariant-loop-place
invariant-loop-place l = record {
  places : l.self.places.items ≡ blocks_before l.layout.items.now l.place;
  numbered : AreNumbered l.layout.items.now l.self;
  few : length l.self.places.items ≤ 20000;
}
