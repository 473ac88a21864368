use Rattle.std.proofs.Common.{Some, sym, ap, ◌∙◌}
use Rattle.std.proofs.lemmas.List.{take_all}
use Rattle.std.proofs.lemmas.Option.{slice_get-get_or}
use Rattle.dg_types.specs.inner.WidthShapes.{all_first}
use Rattle.dg_types.proofs.Counts.{made_more}
use Rattle.dg_types.proofs.scanning.all_first.Goals as goal

pub first_held-requires : goal.first_held-requires
first_held-requires c =
    let block = c.block-item.result in
    c.requires c.loop-block.block-index block (slice_get-get_or c.args.blocks.now c.loop-block.block-index block c.loop-block-test.true ∙ ap Some (sym c.block-item.is))

pub loop-block-preserved : goal.loop-block-preserved
loop-block-preserved c = made_more _ c.args.blocks.now c.loop-block-test.true c.block-item.is c.first_held.ensures c.loop-block.invariant c.in_ok-push.ensures.items

pub returns : goal.returns
returns c = c.loop-block.invariant ∙ ap all_first (take_all c.loop-block.block-index c.args.blocks.now c.loop-block-test.false)
