use Rattle.std.proofs.Common.{List, refl, sym, subst}
use Rattle.dg_model.specs.declared.nested.NestedBlock.{NestedBlock}
use Rattle.dg_flat.specs.Rules.{KeepsEnable, MayStandAt}
use Rattle.dg_flat.proofs.WireRules.{keep_more, keep_all}
use Rattle.dg_flat.proofs.PortReads.{read_at}
use Rattle.dg_flat.proofs.enables.first_misplaced.Goals as goal

pub keeps_enable-requires-clause-parents : goal.keeps_enable-requires-clause-parents
keeps_enable-requires-clause-parents c = rw c.as_slice-blocks.ensures c.requires.parents

pub keeps_enable-requires-clause-systems : goal.keeps_enable-requires-clause-systems
keeps_enable-requires-clause-systems c = rw c.as_slice-blocks.ensures c.requires.systems

pub keeps_enable-requires-clause-there : goal.keeps_enable-requires-clause-there
keeps_enable-requires-clause-there c = read_at c.as_slice-blocks.result.now c.loop-place.place c.index-blocks-place.result c.loop-place-test.true c.index-blocks-place.is

pub returns-then-not-keeps_enable : goal.returns-then-not-keeps_enable
returns-then-not-keeps_enable c =
    let place = c.loop-place.place in
    let block = c.index-blocks-place.result in
    record {
      block = block;
      there = read_at c.args.nested.now.blocks place block (rw c.as_slice-blocks.ensures at c.loop-place-test.true) (rw c.as_slice-blocks.ensures at c.index-blocks-place.is);
      broken = λ keeps. c.if-not-keeps_enable.ensures.broken refl (subst (λ (blocks : List NestedBlock). MayStandAt blocks place block.parent block.part) (sym c.as_slice-blocks.ensures) keeps);
      before = c.loop-place.invariant;
    }

pub loop-place-preserved : goal.loop-place-preserved
loop-place-preserved c =
    let place = c.loop-place.place in
    let block = c.index-blocks-place.result in
    keep_more c.args.nested.now KeepsEnable place block
    (read_at c.args.nested.now.blocks place block (rw c.as_slice-blocks.ensures at c.loop-place-test.true) (rw c.as_slice-blocks.ensures at c.index-blocks-place.is))
    (subst (λ (blocks : List NestedBlock). MayStandAt blocks place block.parent block.part) c.as_slice-blocks.ensures (c.if-not-keeps_enable.ensures.kept refl)) c.loop-place.invariant

pub returns : goal.returns
returns c = keep_all c.args.nested.now KeepsEnable c.loop-place.place (rw c.as_slice-blocks.ensures at c.loop-place-test.false) c.loop-place.invariant
