use Rattle.std.proofs.Common.{◌≡◌, length, Some, inl, inr, sym, ap, ◌∙◌}
use Rattle.std.proofs.lemmas.Option.{get_or_from_slice_get}
use Rattle.dg_flat.specs.Flat.{flat_block, control_as, placed}
use Rattle.dg_flat.specs.Parts.{control_of}
use Rattle.dg_flat.proofs.FlatBlock.{flat_is}
use Rattle.dg_flat.proofs.Positions.{control_inside}
use Rattle.dg_flat.proofs.PathTable.{path_is}
use Rattle.dg_flat.proofs.PortReads.{some_inside}
use Rattle.dg_flat.proofs.blocks.flat_block.Goals as goal

pub placed_under-requires-clause-inside : goal.placed_under-requires-clause-inside
placed_under-requires-clause-inside c = rw c.control-control.ensures (control_inside c.args.blocks.now c.args.block.now.parent)

pub returns-in_ok-path-in-Enable : goal.returns-in_ok-path-in-Enable
returns-in_ok-path-in-Enable c = λ place at.
    let blocks = c.args.blocks.now in
    let block = c.args.block.now in
    let path = c.in_ok-path-in-Enable.ensures
    ∙ path_is blocks (length blocks) place block c.args.paths.now c.requires.parents c.requires.paths
    c.requires.within (some_inside blocks place block at)
    (get_or_from_slice_get blocks place block block at) in
    ap Some (c.control_block.ensures ∙ ap control_as path) ∙ sym (ap (flat_block blocks place (control_of blocks block.parent)) c.in-Enable.is)

pub returns-in_ok-flat-in-Plain : goal.returns-in_ok-flat-in-Plain
returns-in_ok-flat-in-Plain c = λ place at.
    let blocks = c.args.blocks.now in
    let block = c.args.block.now in
    let own = c.in-Plain.own in
    let control = control_of blocks block.parent in
    let path = c.in_ok-path-in-Plain.ensures
    ∙ path_is blocks (length blocks) place block c.args.paths.now c.requires.parents c.requires.paths
    c.requires.within (some_inside blocks place block at)
    (get_or_from_slice_get blocks place block block at) in
    let part : flat_block blocks place control block.part ≡ Some (placed blocks place control own) =
    elim c.in-Plain.is [
      | inl plain ↦ ap (flat_block blocks place control) plain
      | inr port ↦ elim port [ inl inner ↦ ap (flat_block blocks place control) inner.1 | inr outer ↦ ap (flat_block blocks place control) outer.1 ]
    ] in
    flat_is blocks place control block.part own c.in_ok-path-in-Plain.path c.control-control.result c.in_ok-flat-in-Plain.flat c.in_ok-flat-in-Plain.ensures path c.control-control.ensures part
