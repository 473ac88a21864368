-- Rows of numbers in range are a stimulus.
use Rattle.std.proofs.Common.{◌≡◌, ◌<◌, ◌≤◌, ◌≤ℤ◌, ◌+◌, ◌*◌, ◌%◌, ◌==◌, ℕ, Bool, true, false, ◌&&◌, length, Option, None, Some, ℤ, int_le, refl, sym, ap, subst, ◌∙◌, arith}
use Rattle.std.specs.Option.{unwrap_or}
use Rattle.std.proofs.lemmas.List.{length-map}
use Rattle.fx_type.specs.FxType.{lowest_of, highest_of}
use Rattle.math_list.proofs.Searches.{Decides-int_le}
use Rattle.fx_tables.specs.declared.table.Rows.{Rows}
use Rattle.fx_tables.specs.Stimulus.{FitsColumns, hits_at}
use Rattle.dg_model.specs.declared.diagram.Diagram.{Diagram}
use Rattle.dg_model.specs.Attributes.{attributes_of}
use Rattle.dg_model.specs.Hits.{Hits}
use Rattle.dg_model.specs.RootElements.{AreColumns, root_inputs}
use Rattle.dg_response.specs.Response.{column_of, input_columns, number_in}
use Rattle.math_list.proofs.Places.{there_within, there_map}
use Rattle.math_list.proofs.Indices.{index-there}

hit-is : (period : Option ℕ) (t : ℕ) → Hits period t → hits_at (unwrap_or period 1) t ≡ true
hit-is None t hits = ap (λ (n : ℕ). (n % 1) == 0) hits
hit-is (Some period) t hits = ap (λ (n : ℕ). n == 0) hits

in-range : (low high v : ℤ) → (int_le low v && int_le v high) ≡ true → (low ≤ℤ v) × (v ≤ℤ high)
in-range low high v e = let both = and_both (int_le low v) (int_le v high) e in ((Decides-int_le low v).0 both.0, (Decides-int_le v high).0 both.1)
  where
    and_both : (a b : Bool) → (a && b) ≡ true → (a ≡ true) × (b ≡ true)
    and_both true b h = (refl, h)
    and_both false b h = absurd (cc h)

-- the numbers of a sample's row stand among all
pub row-below : (lines columns t cells : ℕ) → t < lines → cells ≡ lines * columns → t * columns + columns ≤ cells
row-below lines columns t cells below is =
    let whole : (t + 1) * columns ≤ lines * columns = mul-le (t + 1) lines columns (omega (arith, below)) in
    let next : (t + 1) * columns ≡ t * columns + columns = next-one t columns in
    omega (arith, is, whole, next)
  where
    mul-le : (a b c : ℕ) → a ≤ b → a * c ≤ b * c
    mul-le a b c h = grind (arith, h)

    next-one : (a b : ℕ) → (a + 1) * b ≡ a * b + b
    next-one a b = grind arith

place-below : (lines columns t place cells : ℕ) → t < lines → place < columns → cells ≡ lines * columns → t * columns + place < cells
place-below lines columns t place cells below within is =
    let row = row-below lines columns t cells below is in
    omega (arith, within, row)

pub are-columns : (diagram : Diagram) (rows : Rows) → rows.columns ≡ length (input_columns diagram) → FitsColumns (input_columns diagram) rows
    → AreColumns (root_inputs diagram (attributes_of diagram)) (number_in rows) rows.lines
are-columns diagram rows many fits place e t there below hits =
    let elements = root_inputs diagram (attributes_of diagram) in
    let within : place < rows.columns = subst (λ n. place < n) (sym (many ∙ length-map elements column_of)) (there_within elements place e there) in
    let cell = index-there rows.cells (t * rows.columns + place) (place-below rows.lines rows.columns t place (length rows.cells) below within rows.full) in
    let is = fits t place (column_of e) (number_in rows place t) below (there_map column_of elements place e there) cell in
    let range = in-range (lowest_of e.type) (highest_of e.type) (number_in rows place t) (is.at_hit (hit-is e.period t hits)) in
    record { low = range.0; high = range.1 }
