use Rattle.std.proofs.Common.{◌≡◌, [], length, take, replicate, None, refl, ap, sym, subst, ◌∙◌, arith, rules, List}
use Rattle.std.proofs.lemmas.List.{take_all}
use Rattle.dg_model.specs.declared.nested.NestedBlock.{NestedBlock}
use Rattle.dg_flat.specs.inner.PortNumbers.{numbered_at}
use Rattle.dg_flat.specs.inner.Tables.{IsRowTable}
use Rattle.dg_flat.proofs.Cells.{rows_filled}
use Rattle.dg_flat.proofs.Firsts.{take_block, length_done, slot_inside}
use Rattle.dg_flat.proofs.Numbers.{numbered_more, numbered_past, numbered_none}
use Rattle.dg_flat.proofs.numbering.Numbering.of.Goals as goal
use Rattle.dg_flat.proofs.numbering.Numbering.of.Goals.{in-Some+in-Some-cell, in-Some+in_default-cell, in_default}

pub loop-place-init : goal.loop-place-init
loop-place-init c =
    let rows = c.in_ok-rows.rows in
    let is : c.in_ok-ports.ports.items ≡ replicate rows.cells None = c.in_ok-ports.ensures.items_if_clones_equal (search rules) in
    rw is (rows_filled rows.lengths.items (numbered_at [] c.args.side) None rows.cells c.in_ok-rows.ensures.rows.cells (λ row number. refl))

pub loop-place-preserved : goal.loop-place-preserved
loop-place-preserved c =
    let blocks = c.args.blocks.now in
    let i = c.loop-place.place in
    let block = c.index-blocks-place.result in
    let more = take_block blocks i block c.loop-place-test.true (sym c.index-blocks-place.is) in
    let lengths = c.in_ok-rows.rows.lengths.items in
    elim c.match-number_of.branch [
      | in-Some+in-Some-cell w ↦
          let cell = w.in-Some-cell.ensures in
          rw (more, w.ports-is, w.note_first.ensures)
          (numbered_more (take i blocks) block c.args.side lengths w.in-Some.number i w.slot.result
          w.in-Some-cell.cell c.loop-place.ports.items
          (length_done blocks i c.loop-place-test.true) w.slot.ensures
          (sym c.number_of.ensures ∙ w.in-Some.is) cell.0 cell.1 c.loop-place.invariant)
      | in-Some+in_default-cell w ↦
          rw (more, w.ports-is)
          (numbered_past (take i blocks) block c.args.side lengths w.in-Some.number w.slot.result
          c.loop-place.ports.items w.slot.ensures
          (sym c.number_of.ensures ∙ w.in-Some.is) w.in_default-cell.ensures c.loop-place.invariant)
      | in_default w ↦
          rw (more, w.ports-is) (numbered_none (take i blocks) block c.args.side lengths c.loop-place.ports.items (sym c.number_of.ensures ∙ w.in_default.is) c.loop-place.invariant)
    ]

pub cell-requires-clause-rows : goal.cell-requires-clause-rows
cell-requires-clause-rows c = c.in_ok-rows.ensures.rows

pub cell-requires-clause-there : goal.cell-requires-clause-there
cell-requires-clause-there c =
    let block = c.index-blocks-place.result in
    let slot = slot_inside c.args.blocks.now c.loop-place.place block c.requires.parents c.loop-place-test.true (sym c.index-blocks-place.is) in
    let long = ap length c.in_ok-rows.ensures.lengths ∙ c.in_ok-counts.ensures.size in
    omega (arith, slot, c.slot.ensures, long)

pub note_first-requires : goal.note_first-requires
note_first-requires c = let cell = c.in-Some-cell.ensures in omega (arith, cell.2, c.loop-place.invariant.size)

pub of-requires : goal.of-requires
of-requires c = omega (arith, c.in_ok-counts.ensures.size, c.requires.few)

pub returns : goal.returns
returns c =
    let blocks = c.args.blocks.now in
    let side = c.args.side in
    record {
      rows = c.in_ok-rows.ensures.rows;
      counts = rw c.in_ok-rows.ensures.lengths c.in_ok-counts.ensures;
      ports = subst (λ (done : List NestedBlock). IsRowTable c.in_ok-rows.rows.lengths.items
          (numbered_at done side) c.loop-place.ports.items)
          (take_all c.loop-place.place blocks c.loop-place-test.false) c.loop-place.invariant;
    }
