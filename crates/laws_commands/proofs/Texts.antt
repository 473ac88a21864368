-- The rows of a stimulus and the text of a response.
use Rattle.std.proofs.Common.{◌≡◌, ◌<◌, ◌+◌, ◌*◌, ◌++◌, ℕ, zero, suc, ℤ, List, slice_get, Some, refl, subst, arith}
use Rattle.fx_tables.specs.declared.table.Column.{Column}
use Rattle.fx_tables.specs.declared.table.Rows.{Rows}
use Rattle.fx_tables.specs.Response.{response, response_line}
use Rattle.fx_tables.specs.Stimulus.{FitsColumns, IsRows}
use Rattle.fx_tables.proofs.CellsLemmas.{stimulus_cell}

-- the text of a response is that of its numbers
pub same-response : (periods : List ℕ) (one other : ℕ → List ℤ) (samples : ℕ) → ((t : ℕ) → t < samples → one t ≡ other t) → response periods one samples ≡ response periods other samples
same-response periods one other zero each = refl
same-response periods one other (suc samples) each =
    let front = same-response periods one other samples (λ t below. each t (omega (arith, below))) in
    let last = each samples (omega arith) in
    (λ i. front i ++ response_line periods samples (last i))

-- the numbers of a stimulus fit its columns
pub rows-fit : (columns : List Column) (outputs : ℕ) (text : List ℕ) (rows : Rows) → IsRows columns outputs text rows → FitsColumns columns rows
rows-fit columns outputs text rows is = λ sample k column value below at reads.
    stimulus_cell columns outputs rows.lines sample k text rows.cells column value is.no_fault is.line_count is.numbers below at
    (subst (λ n. slice_get rows.cells (sample * n + k) ≡ Some value) is.column_count reads)
