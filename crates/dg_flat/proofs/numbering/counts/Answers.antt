use Rattle.std.proofs.Common.{◌≤◌, suc, [], refl, length, sym, ap, subst, ◌∙◌, arith, List}
use Rattle.std.proofs.lemmas.List.{take_all}
use Rattle.std.specs.Option.{is_some}
use Rattle.dg_flat.specs.inner.Slots.{system_of}
use Rattle.dg_flat.specs.inner.PortNumbers.{number_on, count_at}
use Rattle.dg_flat.specs.inner.Tables.{IsTable}
use Rattle.dg_model.specs.declared.nested.NestedBlock.{NestedBlock}
use Rattle.dg_model.specs.declared.nested.Part.{Part}
use Rattle.dg_flat.proofs.Firsts.{counted_more, counted_same, slot_inside, count_few}
use Rattle.dg_flat.proofs.Tables.{table_filled}
use Rattle.dg_flat.proofs.numbering.counts.Goals as goal
use Rattle.dg_flat.proofs.numbering.counts.Goals.{then-is_some, else-is_some}

pub overflow_add-index_mut : goal.overflow_add-index_mut
overflow_add-index_mut c =
    let blocks = c.args.blocks.now in
    let i = c.loop-block.block-index in
    let block = c.block-item.result in
    let slot = slot_inside blocks i block c.requires.parents c.loop-block-test.true (sym c.block-item.is) in
    let old = c.index_mut.result.now in
    let value = c.index_mut.ensures.value ∙ c.loop-block.invariant.at c.slot.result old (omega (arith, slot, c.slot.ensures)) in
    let few = count_few blocks (system_of c.slot.result) (λ part. is_some (number_on c.args.side part)) i c.loop-block-test.true in
    let small : old ≤ 20000 = omega (arith, value, few, c.loop-block-test.true, c.requires.few) in
    omega arith

pub loop-block-preserved : goal.loop-block-preserved
loop-block-preserved c =
    let blocks = c.args.blocks.now in
    let i = c.loop-block.block-index in
    let block = c.block-item.result in
    let is_such = λ (part : Part). is_some (number_on c.args.side part) in
    let known = ap is_some (sym c.number_of.ensures) ∙ sym c.is_some.ensures in
    elim c.if-is_some.branch [
      | then-is_some w ↦
          rw w.counts-is
          (counted_more blocks i block is_such w.slot.result w.index_mut.result.now c.loop-block.counts.items
          c.requires.parents c.loop-block-test.true c.block-item.is w.slot.ensures w.index_mut.ensures.value
          (known ∙ w.if-is_some.true) c.loop-block.invariant)
      | else-is_some w ↦
          rw w.counts-is (counted_same blocks i block is_such c.loop-block.counts.items c.loop-block-test.true c.block-item.is (known ∙ w.if-is_some.false) c.loop-block.invariant)
    ]

pub returns : goal.returns
returns c =
    let blocks = c.args.blocks.now in
    subst (λ (done : List NestedBlock). IsTable (suc (length blocks))
    (count_at done c.args.side) c.loop-block.counts.items)
    (take_all c.loop-block.block-index blocks c.loop-block-test.false) c.loop-block.invariant

pub loop-block-init : goal.loop-block-init
loop-block-init c = rw (c.in_ok-counts.ensures.items_if_clones_equal (λ y same. same)) (table_filled (suc (length c.args.blocks.now)) _ (count_at [] c.args.side) 0 (omega arith) (λ k. refl))

pub index_mut-requires : goal.index_mut-requires
index_mut-requires c =
    let slot = slot_inside c.args.blocks.now c.loop-block.block-index c.block-item.result c.requires.parents c.loop-block-test.true (sym c.block-item.is) in
    omega (arith, slot, c.slot.ensures, c.loop-block.invariant.size, c.loop-block.counts.ok.0)
