use Rattle.std.proofs.Common.{◌≡◌, ◌<◌, ℕ, List, length, Some, slice_get, ap, ◌∙◌, subst, refl, arith}
use Rattle.std.proofs.lemmas.Option.{slice_get_read}
use Rattle.dg_model.specs.declared.diagram.Block.{Block}
use Rattle.dg_model.specs.declared.diagram.Diagram.{Diagram}
use Rattle.hw_build.specs.inner.HubPlaces.{AddsBlocks}
use Rattle.hw_build.proofs.HubSteps.{blocks_none, blocks_more}
use Rattle.hw_build.proofs.hubs.put_blocks.Goals as goal

pub loop-block-init : goal.loop-block-init
loop-block-init c = blocks_none c.args.checked.now.diagram c.args.net.now c.args.columns.now c.args.firsts.now c.requires.none c.requires.size

pub loop-block-preserved : goal.loop-block-preserved
loop-block-preserved c =
    let diagram = c.args.checked.now.diagram in
    let one : Block = c.index-blocks-block.result in
    let blocks : c.as_slice-blocks.result.now ≡ diagram.blocks = c.as_slice-blocks.ensures ∙ ap (λ (d : Diagram). d.blocks) c.diagram.ensures in
    let below : c.loop-block.block < length c.as_slice-blocks.result.now = omega (arith, c.loop-block-test.true, c.in-Ok.ensures.1) in
    let there = slice_get_read c.as_slice-blocks.result.now (length c.as_slice-blocks.result.now) c.loop-block.block one refl below c.index-blocks-block.is in
    let at : slice_get diagram.blocks c.loop-block.block ≡ Some one = subst (λ (bs : List Block). slice_get bs c.loop-block.block ≡ Some one) blocks there in
    rw c.in_ok-push.ensures.appended (blocks_more diagram c.args.net.now c.loop-block.net c.put_block.new.net
    c.args.columns.now c.loop-block.firsts c.loop-block.block one c.put_block.new.firsts c.loop-block.invariant
    at c.in_ok-put_block.ensures)

pub put_block-requires-clause-is : goal.put_block-requires-clause-is
put_block-requires-clause-is c =
    let diagram = c.args.checked.now.diagram in
    let one : Block = c.index-blocks-block.result in
    let blocks : c.as_slice-blocks.result.now ≡ diagram.blocks = c.as_slice-blocks.ensures ∙ ap (λ (d : Diagram). d.blocks) c.diagram.ensures in
    let below : c.loop-block.block < length c.as_slice-blocks.result.now = omega (arith, c.loop-block-test.true, c.in-Ok.ensures.1) in
    let there = slice_get_read c.as_slice-blocks.result.now (length c.as_slice-blocks.result.now) c.loop-block.block one refl below c.index-blocks-block.is in
    subst (λ (bs : List Block). slice_get bs c.loop-block.block ≡ Some one) blocks there

pub put_block-requires-clause-none : goal.put_block-requires-clause-none
put_block-requires-clause-none c = c.new-own.ensures

pub returns : goal.returns
returns c =
    let blocks : length c.as_slice-blocks.result.now ≡ length c.args.checked.now.diagram.blocks =
    ap (λ (bs : List Block). length bs)
    (c.as_slice-blocks.ensures ∙ ap (λ (d : Diagram). d.blocks) c.diagram.ensures) in
    let all : c.loop-block.block ≡ length c.args.checked.now.diagram.blocks = omega (arith, c.loop-block-test.false, c.loop-block.auto.block-end, c.in-Ok.ensures.1, blocks) in
    subst (λ (n : ℕ). AddsBlocks c.args.checked.now.diagram c.args.net.now c.loop-block.net c.args.columns.now c.loop-block.firsts n) all c.loop-block.invariant
