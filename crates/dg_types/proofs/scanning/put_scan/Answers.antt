use Rattle.std.proofs.Common.{◌≡◌, List, length, sym, ap, ◌∙◌, arith}
use Rattle.std.specs.Prelude.{slice_get}
use Rattle.dg_model.specs.declared.diagram.Block.{Block}
use Rattle.dg_waves.specs.Rounds.{after_rounds}
use Rattle.dg_waves.proofs.WaveRounds.{length_after}
use Rattle.dg_types.specs.inner.Widths.{next_held}
use Rattle.dg_types.specs.inner.WidthShapes.{shown, all_first}
use Rattle.dg_types.specs.inner.Build.{all_forms}
use Rattle.dg_types.proofs.WidthRounds.{have_rows, is_laid}
use Rattle.dg_types.proofs.WidthTables.{first_fits, length_first, length_shown}
use Rattle.dg_types.proofs.ScanFacts.{ends_there, is_scan}
use Rattle.dg_types.proofs.scanning.put_scan.Goals as goal
use Rattle.dg_types.proofs.scanning.put_scan.Goals.{After-as_slice, After-as_slice-4}

pub after_rounds-requires-clause-fit : goal.after_rounds-requires-clause-fit
after_rounds-requires-clause-fit c =
    rw (c.in_ok-first.ensures, c.as_slice-blocks.ensures)
    (λ k d inside. first_fits c.args.diagram.now.blocks k d (is_laid c.args.diagram.now c.requires.wired).declared inside)

pub after_rounds-requires-clause-size : goal.after_rounds-requires-clause-size
after_rounds-requires-clause-size c = ap length c.in_ok-first.ensures ∙ length_first c.as_slice-blocks.result.now ∙ ap length c.as_slice-blocks.ensures ∙ sym c.requires.size

pub after_rounds-requires-clause-few : goal.after_rounds-requires-clause-few
after_rounds-requires-clause-few c = omega (arith, c.requires.size, c.requires.wired.size)

pub after_rounds-requires-2-clause-few : goal.after_rounds-requires-2-clause-few
after_rounds-requires-2-clause-few c = omega (arith, c.requires.size, c.requires.wired.size)

pub after_rounds-requires-2-clause-fit : goal.after_rounds-requires-2-clause-fit
after_rounds-requires-2-clause-fit c = c.in_ok-held.ensures.fit

pub put_rows-requires-clause-few : goal.put_rows-requires-clause-few
put_rows-requires-clause-few c = rw c.as_slice-blocks.ensures (have_rows c.args.diagram.now c.requires.wired)

pub put_rows-requires-2-clause-few : goal.put_rows-requires-2-clause-few
put_rows-requires-2-clause-few c = rw c.as_slice-blocks.ensures (have_rows c.args.diagram.now c.requires.wired)

pub put_rows-requires-clause-small : goal.put_rows-requires-clause-small
put_rows-requires-clause-small c = rw c.as_slice.ensures.value c.in_ok-held.ensures.fit

pub put_rows-requires-2-clause-small : goal.put_rows-requires-2-clause-small
put_rows-requires-2-clause-small c = rw c.as_slice-2.ensures.value c.in_ok-later.ensures.fit

pub all_first-requires : goal.all_first-requires
all_first-requires c = λ k block at.
    let small = (is_laid c.args.diagram.now c.requires.wired).declared k block (ap (λ (bs : List Block). slice_get bs k) (sym c.as_slice-blocks.ensures) ∙ at) in
    omega (arith, small)

-- how many blocks hold widths, and have them at their output ports
held_long : (c : After-as_slice) → length c.as_slice.result.now ≡ length c.as_slice-blocks.result.now
held_long c =
    let blocks = c.as_slice-blocks.result.now in
    ap length (c.as_slice.ensures.value ∙ c.in_ok-held.ensures.values)
    ∙ length_after (next_held (all_forms c.args.round.now.blocks.now) c.args.round.now.sources)
    (length blocks) c.in_ok-first.first.items
    ∙ ap length c.in_ok-first.ensures ∙ length_first blocks

widths_long : (c : After-as_slice-4) → length c.as_slice.result.now ≡ length c.as_slice-blocks.result.now → length c.put_rows.new.rows ≡ length c.args.diagram.now.blocks
widths_long c held = ap length c.in_ok-put_rows.ensures ∙ length_shown c.as_slice-blocks.result.now c.as_slice.result.now held ∙ ap length c.as_slice-blocks.ensures

pub put_rows-requires-clause-size : goal.put_rows-requires-clause-size
put_rows-requires-clause-size c = held_long (goal.at.put_rows-requires-clause-size c).After-as_slice

pub after_rounds-requires-2-clause-size : goal.after_rounds-requires-2-clause-size
after_rounds-requires-2-clause-size c =
    let blocks = c.as_slice-blocks.result.now in
    let next = next_held (all_forms c.args.round.now.blocks.now) c.args.round.now.sources in
    ap length c.in_ok-held.ensures.values ∙ length_after next (length blocks) c.in_ok-first.first.items ∙ ap length c.in_ok-first.ensures ∙ length_first blocks
    ∙ ap length c.as_slice-blocks.ensures ∙ sym c.requires.size

pub put_rows-requires-2-clause-size : goal.put_rows-requires-2-clause-size
put_rows-requires-2-clause-size c =
    let blocks = c.as_slice-blocks.result.now in
    let next = next_held (all_forms c.args.round.now.blocks.now) c.args.round.now.sources in
    ap length (c.as_slice-2.ensures.value ∙ c.in_ok-later.ensures.values) ∙ length_after next 1 c.in_ok-held.held.items
    ∙ ap length c.in_ok-held.ensures.values ∙ length_after next (length blocks) c.in_ok-first.first.items ∙ ap length c.in_ok-first.ensures ∙ length_first blocks

pub input_rows-requires-clause-from : goal.input_rows-requires-clause-from
input_rows-requires-clause-from c =
    let points = goal.at.input_rows-requires-clause-from c in
    let size = widths_long points.After-as_slice-4 (held_long points.After-as_slice) in
    rw (c.as_slice-3.ensures, c.as_slice-4.ensures) (λ k edge inside. (ends_there c.args.diagram.now c.put_rows.new.rows c.requires.wired size k edge inside).0)

pub input_rows-requires-clause-to : goal.input_rows-requires-clause-to
input_rows-requires-clause-to c =
    let points = goal.at.input_rows-requires-clause-to c in
    let size = widths_long points.After-as_slice-4 (held_long points.After-as_slice) in
    rw (c.as_slice-3.ensures, c.as_slice-4.ensures) (λ k edge inside. (ends_there c.args.diagram.now c.put_rows.new.rows c.requires.wired size k edge inside).1)

pub returns : goal.returns
returns c =
    let diagram = c.args.diagram.now in
    let forms = all_forms c.args.round.now.blocks.now in
    let sources = c.args.round.now.sources in
    let next = next_held forms sources in
    let held = c.in_ok-held.held.items in
    let later = c.in_ok-later.later.items in
    let is_held : held ≡ after_rounds next (length diagram.blocks) (all_first diagram.blocks) =
    c.in_ok-held.ensures.values ∙ ap (after_rounds next (length c.as_slice-blocks.result.now)) c.in_ok-first.ensures
    ∙ ap (λ (bs : List Block). after_rounds next (length bs) (all_first bs)) c.as_slice-blocks.ensures in
    let widths : c.put_rows.new.rows ≡ shown diagram.blocks held =
    c.in_ok-put_rows.ensures ∙ ap (λ (bs : List Block). shown bs c.as_slice.result.now)
    c.as_slice-blocks.ensures ∙ ap (shown diagram.blocks) c.as_slice.ensures.value in
    let again : c.put_rows-2.new.rows ≡ shown diagram.blocks later =
    c.in_ok-put_rows-2.ensures ∙ ap (λ (bs : List Block). shown bs c.as_slice-2.result.now)
    c.as_slice-blocks.ensures ∙ ap (shown diagram.blocks) c.as_slice-2.ensures.value in
    is_scan diagram (record { widths = c.put_rows.new.rows; again = c.put_rows-2.new.rows; inputs = c.in_ok-inputs.inputs }) forms sources held later c.requires.wired c.requires.mirrors
    is_held c.in_ok-later.ensures.values widths again (rw (c.as_slice-3.ensures, c.as_slice-4.ensures) at c.in_ok-inputs.ensures)

pub put_rows-requires-clause-none : goal.put_rows-requires-clause-none
put_rows-requires-clause-none c = c.requires.widths

pub put_rows-requires-2-clause-none : goal.put_rows-requires-2-clause-none
put_rows-requires-2-clause-none c = c.requires.again
