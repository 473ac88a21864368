use Rattle.std.proofs.Common.{[], refl, None, suc, List, length, sym, ap, subst, arith, rules}
use Rattle.std.proofs.lemmas.List.{take_all}
use Rattle.dg_model.specs.declared.nested.NestedBlock.{NestedBlock}
use Rattle.dg_flat.specs.Parts.{first_in, is_enable_port}
use Rattle.dg_flat.specs.inner.Slots.{system_of}
use Rattle.dg_flat.specs.inner.Tables.{IsTable}
use Rattle.dg_flat.proofs.Firsts.{noted_more, noted_same, slot_inside, not_enable_port}
use Rattle.dg_flat.proofs.Tables.{table_filled}
use Rattle.dg_flat.proofs.systems.enable_ports.Goals as goal
use Rattle.dg_flat.proofs.systems.enable_ports.Goals.{in-Enable, in_default}

pub loop-place-preserved : goal.loop-place-preserved
loop-place-preserved c =
    let blocks = c.args.blocks.now in
    let i = c.loop-place.place in
    let block = c.index-blocks-place.result in
    elim c.match-block.branch [
      | in-Enable w ↦
          rw (w.ports-is, w.note_first.ensures)
          (noted_more blocks i block is_enable_port w.slot.result c.loop-place.ports.items c.requires.parents
          c.loop-place-test.true c.index-blocks-place.is w.slot.ensures
          (ap is_enable_port w.in-Enable.is) c.loop-place.invariant)
      | in_default w ↦
          rw w.ports-is (noted_same blocks i block is_enable_port c.loop-place.ports.items c.loop-place-test.true
          c.index-blocks-place.is (not_enable_port block.part w.in_default.not-Enable) c.loop-place.invariant)
    ]

pub note_first-requires : goal.note_first-requires
note_first-requires c =
    let block = c.index-blocks-place.result in
    let slot = slot_inside c.args.blocks.now c.loop-place.place block c.requires.parents c.loop-place-test.true (sym c.index-blocks-place.is) in
    omega (arith, slot, c.slot.ensures, c.loop-place.invariant.size)

pub returns : goal.returns
returns c =
    subst (λ (blocks : List NestedBlock). IsTable (suc (length c.args.blocks.now)) (λ slot. first_in blocks (system_of slot) is_enable_port) c.loop-place.ports.items)
    (take_all c.loop-place.place c.args.blocks.now c.loop-place-test.false) c.loop-place.invariant

pub loop-place-init : goal.loop-place-init
loop-place-init c = rw (c.in_ok-ports.ensures.items_if_clones_equal (search rules))
    (table_filled (suc (length c.args.blocks.now)) _ (λ slot. first_in [] (system_of slot) is_enable_port) None
    (omega arith) (λ k. refl))
