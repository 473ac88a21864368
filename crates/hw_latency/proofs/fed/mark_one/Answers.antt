use Rattle.std.proofs.Common.{◌≡◌, [], ap, ◌∙◌, length, arith}
use Rattle.std.proofs.lemmas.List.{get_or_read}
use Rattle.fx_io.specs.Rows.{row_at}
use Rattle.hw_latency.proofs.FeedMarks.{row_below, marked_on}
use Rattle.hw_latency.proofs.fed.mark_one.Goals as goal

pub bounds-rows-place : goal.bounds-rows-place
bounds-rows-place c =
    let size = c.requires.rows.size in
    let there = c.requires.there in
    omega (arith, size, there)

pub offset_bounds-rows-place : goal.offset_bounds-rows-place
offset_bounds-rows-place c =
    let size = c.requires.rows.size in
    let there = c.requires.there in
    omega (arith, size, there)

pub is_mark-mark-requires-clause-below : goal.is_mark-mark-requires-clause-below
is_mark-mark-requires-clause-below c =
    let size = c.requires.rows.size in
    let there = c.requires.there in
    let row : c.as_slice-row.result.now ≡ row_at c.args.rows.now c.args.place =
    c.as_slice-row.ensures ∙ get_or_read c.args.rows.now c.args.place c.index-rows-place.result
    (omega (arith, size, there)) c.index-rows-place.is [] in
    row_below c.args.checked.now.diagram c.args.rows.now c.as_slice-row.result.now c.as_slice.result.now c.args.place c.requires.rows row (ap length c.as_slice.ensures.value ∙ c.requires.size)

pub index_mut-requires : goal.index_mut-requires
index_mut-requires c =
    let size = c.requires.size in
    let there = c.requires.there in
    let len = c.args.fed.now.ok.0 in
    omega (arith, size, there, len)

pub returns : goal.returns
returns c =
    let size = c.requires.rows.size in
    let there = c.requires.there in
    let row : c.as_slice-row.result.now ≡ row_at c.args.rows.now c.args.place =
    c.as_slice-row.ensures ∙ get_or_read c.args.rows.now c.args.place c.index-rows-place.result
    (omega (arith, size, there)) c.index-rows-place.is [] in
    marked_on c.args.checked.now.diagram c.args.plan.now c.args.rows.now c.as_slice-row.result.now
    c.args.fed.now.items c.as_slice.result.now c.args.place c.is_mark-mark.result c.requires.rows row
    c.as_slice.ensures.value c.requires.there c.is_mark-mark.ensures
