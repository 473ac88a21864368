use Rattle.std.proofs.Common.{◌<◌, [], ◌∷◌, ◌++◌, List, length, sym, ap, ◌∙◌, arith}
use Rattle.std.specs.List.{enumerate_from, filter_map}
use Rattle.std.proofs.lemmas.List.{take_all}
use Rattle.dg_model.specs.declared.nested.NestedBlock.{NestedBlock}
use Rattle.dg_flat.specs.Flat.{flat_block}
use Rattle.dg_flat.specs.Parts.{control_of}
use Rattle.dg_flat.proofs.FlatBlock.{flat_more, flat_same}
use Rattle.dg_flat.proofs.PortReads.{read_at}
use Rattle.dg_flat.proofs.blocks.flat_blocks.Goals as goal
use Rattle.dg_flat.proofs.blocks.flat_blocks.Goals.{in-Some+in_ok-push, in_default}

pub loop-block-preserved : goal.loop-block-preserved
loop-block-preserved c =
    let blocks = c.args.blocks.now in
    let i = c.loop-block.block-index in
    let block = c.block-item.result in
    let inside : i < length blocks = c.loop-block-test.true in
    let its = c.in_ok-block.ensures i (read_at blocks i block inside c.block-item.is) in
    elim c.match-branch-2.branch [
      | in-Some+in_ok-push w ↦
          w.flat-is ∙ w.in_ok-push.ensures.appended ∙ ap (λ flat. flat ++ w.in-Some.block ∷ []) c.loop-block.invariant
          ∙ sym (flat_more (λ (place, block). flat_block blocks place (control_of blocks block.parent) block.part) blocks i block w.in-Some.block inside c.block-item.is (sym its ∙ w.in-Some.is))
      | in_default w ↦
          w.flat-is ∙ c.loop-block.invariant
          ∙ sym (flat_same (λ (place, block). flat_block blocks place (control_of blocks block.parent) block.part) blocks i block inside c.block-item.is (sym its ∙ w.in_default.is))
    ]

pub flat_block-requires-clause-within : goal.flat_block-requires-clause-within
flat_block-requires-clause-within c =
    let blocks = c.args.blocks.now in
    let i = c.loop-block.block-index in
    let before = c.requires.parents.before i c.block-item.result (read_at blocks i c.block-item.result c.loop-block-test.true c.block-item.is) in
    omega (arith, before, c.loop-block-test.true)

pub returns : goal.returns
returns c =
    let blocks = c.args.blocks.now in
    c.loop-block.invariant
    ∙ ap (λ (done : List NestedBlock). filter_map
    (λ (place, block). flat_block blocks place (control_of blocks block.parent) block.part)
    (enumerate_from 0 done)) (take_all c.loop-block.block-index blocks c.loop-block-test.false)
