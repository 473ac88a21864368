use Rattle.std.proofs.Common.{◌≡◌, ℕ, ◌+◌, suc, ◌<◌, List, length, ap, ◌∙◌, subst, refl, arith}
use Rattle.std.specs.Prelude.{Some, slice_get}
use Rattle.std.proofs.lemmas.Option.{slice_get_read}
use Rattle.dg_model.specs.declared.diagram.Block.{Block}
use Rattle.dg_model.specs.declared.diagram.Diagram.{Diagram}
use Rattle.hw_build.specs.inner.HubPlaces.{hub_start}
use Rattle.hw_build.specs.inner.ElementLoop.{Reaches, roots_of}
use Rattle.hw_build.proofs.BlockLoops.{begun_reaches, all_stand, input_spots}
use Rattle.hw_build.proofs.blocks.put_elements.Goals as goal

pub loop-block-init : goal.loop-block-init
loop-block-init c =
    let roots = input_spots (roots_of c.args.setting) in
    begun_reaches c.args.setting c.setting_is_known.ensures.listed c.setting_is_known.ensures.valid c.setting_is_known.ensures.ordered c.requires.set c.args.net.now c.requires.begun roots.0 roots.1

pub overflow_cast-owner : goal.overflow_cast-owner
overflow_cast-owner c =
    let blocks : length c.as_slice-blocks.result.now ≡ length c.args.setting.design.checked.now.diagram.blocks =
    ap (λ (bs : List Block). length bs)
    (c.as_slice-blocks.ensures ∙ ap (λ (d : Diagram). d.blocks) c.diagram.ensures) in
    record { fits = omega (arith, blocks, c.loop-block-test.true, c.requires.set.designed.scheduled.checked.wired.size) }

pub put_block-requires-clause-is : goal.put_block-requires-clause-is
put_block-requires-clause-is c =
    let one : Block = c.index-blocks-block.result in
    let below : c.loop-block.block < length c.as_slice-blocks.result.now = omega (arith, c.loop-block-test.true) in
    let there = slice_get_read c.as_slice-blocks.result.now (length c.as_slice-blocks.result.now) c.loop-block.block one refl below c.index-blocks-block.is in
    subst (λ (bs : List Block). slice_get bs c.loop-block.block ≡ Some one) (c.as_slice-blocks.ensures ∙ ap (λ (d : Diagram). d.blocks) c.diagram.ensures) there

pub put_block-requires-clause-before : goal.put_block-requires-clause-before
put_block-requires-clause-before c = c.loop-block.invariant

pub loop-block-preserved : goal.loop-block-preserved
loop-block-preserved c =
    let next : suc c.loop-block.block ≡ c.loop-block.block + 1 = omega arith in
    subst (λ (n : ℕ). Reaches c.args.setting c.put_block.new.net (hub_start c.args.setting.design.checked.now.diagram n)) next c.in_ok-put_block.ensures

pub returns : goal.returns
returns c =
    let low = c.loop-block-test.false in
    let high = c.loop-block.auto.block-end in
    let blocks : length c.as_slice-blocks.result.now ≡ length c.args.setting.design.checked.now.diagram.blocks =
    ap (λ (bs : List Block). length bs)
    (c.as_slice-blocks.ensures ∙ ap (λ (d : Diagram). d.blocks) c.diagram.ensures) in
    let all : c.loop-block.block ≡ length c.args.setting.design.checked.now.diagram.blocks = omega (arith, low, high, blocks) in
    let reached = subst (λ (n : ℕ). Reaches c.args.setting c.loop-block.net (hub_start c.args.setting.design.checked.now.diagram n)) all c.loop-block.invariant in
    (reached.spots, all_stand c.args.setting c.setting_is_known.ensures.listed c.setting_is_known.ensures.ordered c.requires.set c.loop-block.net reached)
