use Rattle.std.proofs.Common.{◌≡◌, ℕ, ◌+◌, List, Option, None, get_or, sym, ap, subst, ◌∙◌, arith}
use Rattle.dg_flat.specs.Parts.{control_of}
use Rattle.dg_flat.specs.inner.Slots.{system_of, first_of}
use Rattle.dg_flat.proofs.Controls.{AreControlsTo, control_noted, controls_begun, controls_more, controls_all}
use Rattle.dg_flat.proofs.Firsts.{slot_back, slot_within}
use Rattle.dg_flat.proofs.systems.controls.Goals as goal

pub loop-place-init : goal.loop-place-init
loop-place-init c = subst (λ (controls : List (Option ℕ)). AreControlsTo c.args.blocks.now 0 controls)
    (sym c.in_ok-controls.ensures.items) (controls_begun c.args.blocks.now c.args.enables.now c.requires.enables)

pub loop-place-preserved : goal.loop-place-preserved
loop-place-preserved c =
    let blocks = c.args.blocks.now in
    let i = c.loop-place.place in
    let block = c.index-blocks-place.result in
    let inside = c.loop-place-test.true in
    let at : get_or blocks i block ≡ block = sym c.index-blocks-place.is in
    let port : Option ℕ = get_or c.loop-place.controls.items (i + 1) None in
    let around : Option ℕ = c.index-around.result.now in
    let parent = slot_within blocks i block c.requires.parents inside at in
    let around_is : around ≡ control_of blocks block.parent =
    c.index-around.ensures ∙ c.loop-place.invariant.done c.slot.result around (omega (arith, parent, c.slot.ensures))
    ∙ ap (λ k. control_of blocks (system_of k)) c.slot.ensures ∙ ap (control_of blocks) (slot_back block.parent) in
    let noted = control_noted blocks i block port around c.requires.parents inside at (c.loop-place.invariant.later (i + 1) None (omega arith) (omega (arith, inside))) around_is in
    subst (λ (controls : List (Option ℕ)). AreControlsTo blocks (i + 1) controls) (sym c.note_first.ensures)
    (controls_more blocks i c.loop-place.controls.items (first_of port around) inside noted c.loop-place.invariant)

pub index-around-requires : goal.index-around-requires
index-around-requires c =
    let parent = slot_within c.args.blocks.now c.loop-place.place c.index-blocks-place.result c.requires.parents c.loop-place-test.true (sym c.index-blocks-place.is) in
    omega (arith, parent, c.loop-place-test.true, c.slot.ensures, c.loop-place.invariant.size, c.loop-place.controls.ok.0)

pub note_first-requires : goal.note_first-requires
note_first-requires c = omega (arith, c.loop-place-test.true, c.loop-place.invariant.size)

pub returns : goal.returns
returns c = controls_all c.args.blocks.now c.loop-place.place c.loop-place.controls.items c.loop-place-test.false c.loop-place.invariant
