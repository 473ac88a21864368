use Rattle.std.proofs.Common.{◌+◌, ◌*◌, ◌<◌, ◌∙◌, Some, get_or, length, ap, sym, arith, rules}
use Rattle.std.specs.Int.{w128}
use Rattle.std.specs.Prelude.{pos, slice_get}
use Rattle.std.proofs.lemmas.Int.{to_z-of_z}
use Rattle.std.proofs.lemmas.Option.{slice_get-get_or}
use Rattle.fx_tables.proofs.CellsLemmas.{cell_within}
use Rattle.fx_tables.proofs.table.Rows.get.Goals as goal
use Rattle.fx_tables.proofs.table.Rows.get.Goals.{After-as_slice}

-- the cell stands among those of the table
inside : (c : After-as_slice) → c.args.row * c.args.self.now.columns + c.args.column < length c.as_slice.result.now
inside c =
    let at = cell_within c.args.row c.args.column c.args.self.now.lines c.args.self.now.columns c.requires.row_is_there c.requires.column_is_there in
    omega (arith, at, c.args.self.now.full, ap length c.as_slice.ensures)

pub overflow_mul-result : goal.overflow_mul-result
overflow_mul-result c = let low = inside (goal.at.overflow_mul-result c).After-as_slice in omega (arith, low, c.as_slice.type_inv)

pub overflow_add-result : goal.overflow_add-result
overflow_add-result c = let low = inside (goal.at.overflow_add-result c).After-as_slice in omega (arith, low, c.as_slice.type_inv)

pub offset_bounds-as_slice-row : goal.offset_bounds-as_slice-row
offset_bounds-as_slice-row c = let low = inside (goal.at.offset_bounds-as_slice-row c).After-as_slice in omega (arith, low, c.as_slice.type_inv)

pub bounds-as_slice-row : goal.bounds-as_slice-row
bounds-as_slice-row c = inside (goal.at.bounds-as_slice-row c).After-as_slice

pub returns : goal.returns
returns c =
    let place = c.args.row * c.args.self.now.columns + c.args.column in
    ap (λ cells. slice_get cells place) (sym c.as_slice.ensures)
    ∙ slice_get-get_or c.as_slice.result.now place (pos 0) (inside (goal.at.returns c).After-as_slice)
    ∙ ap Some (sym (to_z-of_z w128 (get_or c.as_slice.result.now place (pos 0)) (search rules)))
