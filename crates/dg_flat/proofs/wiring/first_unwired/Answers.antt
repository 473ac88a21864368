use Rattle.std.proofs.Common.{refl}
use Rattle.dg_flat.specs.Rules.{KeepsWiring}
use Rattle.dg_flat.proofs.WireRules.{keep_more, keep_all}
use Rattle.dg_flat.proofs.PortReads.{read_at}
use Rattle.dg_flat.proofs.wiring.first_unwired.Goals as goal

pub returns-then-not-keeps_wiring : goal.returns-then-not-keeps_wiring
returns-then-not-keeps_wiring c = record {
  block = c.index-blocks-place.result;
  there = read_at c.args.nested.now.blocks c.loop-place.place c.index-blocks-place.result
      (rw c.as_slice-blocks.ensures at c.loop-place-test.true)
      (rw c.as_slice-blocks.ensures at c.index-blocks-place.is);
  broken = c.if-not-keeps_wiring.ensures.broken refl;
  before = c.loop-place.invariant;
}

pub loop-place-preserved : goal.loop-place-preserved
loop-place-preserved c =
    keep_more c.args.nested.now KeepsWiring c.loop-place.place c.index-blocks-place.result
    (read_at c.args.nested.now.blocks c.loop-place.place c.index-blocks-place.result (rw c.as_slice-blocks.ensures at c.loop-place-test.true) (rw c.as_slice-blocks.ensures at c.index-blocks-place.is))
    (c.if-not-keeps_wiring.ensures.kept refl) c.loop-place.invariant

pub returns : goal.returns
returns c = keep_all c.args.nested.now KeepsWiring c.loop-place.place (rw c.as_slice-blocks.ensures at c.loop-place-test.false) c.loop-place.invariant

pub keeps_wiring-requires : goal.keeps_wiring-requires
keeps_wiring-requires c = record {
  parents = c.requires.parents;
  systems = c.requires.systems;
  tally = rw (c.as_slice-blocks.ensures, c.as_slice.ensures) at c.in_ok-tally.ensures;
  there = read_at c.args.nested.now.blocks c.loop-place.place c.index-blocks-place.result
      (rw c.as_slice-blocks.ensures at c.loop-place-test.true)
      (rw c.as_slice-blocks.ensures at c.index-blocks-place.is);
}

pub of-requires-clause-systems : goal.of-requires-clause-systems
of-requires-clause-systems c = rw c.as_slice-blocks.ensures c.requires.systems

pub of-requires-clause-ends : goal.of-requires-clause-ends
of-requires-clause-ends c = rw (c.as_slice-blocks.ensures, c.as_slice.ensures) c.requires.ends

pub of-requires-clause-few : goal.of-requires-clause-few
of-requires-clause-few c = rw c.as_slice-blocks.ensures c.requires.few
