-- The columns of a checked diagram have periods above 0.
use Rattle.std.proofs.Common.{◌≡◌, ◌<◌, ℕ, List, map, Option, Some, None, All, refl, ap, sym, ◌∙◌, subst, arith}
use Rattle.std.specs.Option.{unwrap_or}
use Rattle.std.proofs.lemmas.Option.{get_or_from_slice_get}
use Rattle.dg_model.specs.declared.diagram.Diagram.{Diagram}
use Rattle.dg_model.specs.Attributes.{attributes_of}
use Rattle.dg_model.specs.Checked.{IsChecked}
use Rattle.dg_model.specs.declared.row.Role.{Role}
use Rattle.dg_model.specs.Laws.{AreRootElements}
use Rattle.dg_model.specs.RootElements.{RootElement}
use Rattle.dg_response.specs.Response.{column_of}
use Rattle.fx_tables.specs.declared.table.Column.{Column}
use Rattle.hw_sched.specs.Laws.{PeriodsAreAbove}
use Rattle.math_list.proofs.Places.{there_map, get_some}
use Rattle.std.proofs.lemmas.List.{length-map}

above_none : (period : Option ℕ) → ((p : ℕ) → period ≡ Some p → 0 < p) → 0 < unwrap_or period 1
above_none None above = omega arith
above_none (Some p) above = above p refl

pub periods_above : (number_of : Role → Option ℕ) (width_of : ℕ → ℕ) (diagram : Diagram) (elements : List RootElement) → IsChecked diagram → PeriodsAreAbove
    → AreRootElements number_of width_of diagram (attributes_of diagram) elements → All (λ (column : Column). 0 < column.period) (map column_of elements)
periods_above number_of width_of diagram elements checked above are = λ k d below.
    let element = get_some elements k (subst (λ (n : ℕ). k < n) (length-map elements column_of) below) in
    let is = are.elements_of k element.0 element.1 in
    let positive : 0 < unwrap_or element.0.period 1 = above_none element.0.period (λ p period. above diagram element.0.block p checked (sym (ap (λ (e : RootElement). e.period) is.4) ∙ period)) in
    subst (λ (column : Column). 0 < column.period) (sym (get_or_from_slice_get (map column_of elements) k (column_of element.0) d (there_map column_of elements k element.0 element.1))) positive
