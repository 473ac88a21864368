-- One sample more of a response.
use Rattle.std.proofs.Common.{◌≡◌, ◌<◌, ◌+◌, ◌-◌, ◌*◌, ◌^◌, ℕ, suc, List, length, take, drop, ℤ, pos, refl, sym, ap, subst, ◌∙◌, arith}
use Rattle.std.proofs.lemmas.List.{length-map}
use Rattle.fx_tables.specs.declared.table.Rows.{Rows}
use Rattle.fx_tables.specs.Stimulus.{FitsColumns}
use Rattle.dg_model.specs.declared.diagram.Diagram.{Diagram}
use Rattle.dg_model.specs.Attributes.{attributes_of}
use Rattle.dg_model.specs.Checked.{IsChecked, CheckedDiagram}
use Rattle.dg_model.specs.Laws.{ColumnsMakeStimulus, ColumnsComeBack}
use Rattle.dg_model.specs.RootElements.{RootElement, root_inputs, root_outputs}
use Rattle.dg_model.specs.Signals.{Attributes, Table}
use Rattle.dg_model.specs.Solves.{IsStimulus}
use Rattle.dg_tables.specs.Laws.{IsOrdered, SomeTableSolves}
use Rattle.dg_sim.specs.Sim.{IsSimOf, IsAt, IsRowOf, IsStepped, Stands}
use Rattle.dg_response.specs.declared.responding.Responding.{Responding}
use Rattle.dg_response.specs.Laws.{SomeResponse}
use Rattle.dg_response.specs.Responding.{IsBefore, IsRowAt, SolvesRows, row_of}
use Rattle.dg_response.specs.Response.{column_of, input_columns, output_columns, number_in, stimulus_of, shown}
use Rattle.math_list.proofs.Places.{there_within}
use Rattle.math_list.proofs.Indices.{by-places, index-part}
use Rattle.dg_response.proofs.Stimuli.{are-columns}

-- ---- rows of numbers are a stimulus, and have a response

pub stimulus-is : (diagram : Diagram) (rows : Rows) → IsChecked diagram → rows.columns ≡ length (input_columns diagram) → FitsColumns (input_columns diagram) rows → ColumnsMakeStimulus
    → IsStimulus diagram (attributes_of diagram) (stimulus_of diagram rows) rows.lines
stimulus-is diagram rows is columns fits made = made diagram (attributes_of diagram) (number_in rows) rows.lines is.wired (are-columns diagram rows columns fits)

pub has-response : ColumnsMakeStimulus → SomeTableSolves → (diagram : Diagram) (order : List ℕ) (rows : Rows)
    → IsOrdered diagram order → rows.columns ≡ length (input_columns diagram)
    → FitsColumns (input_columns diagram) rows
    → SomeResponse diagram rows
has-response made some diagram order rows ordered columns fits =
    let solved = some diagram order (stimulus_of diagram rows) rows.lines ordered (stimulus-is diagram rows ordered.checked columns fits made) in
    record { lines = shown diagram solved.0; shown = record { table = solved.0; solves = solved.1; lines_are = λ t below. refl } }

-- ---- the step

module _ (checked : CheckedDiagram) (rows : Rows) (is : IsChecked checked.diagram) (columns : rows.columns ≡ length (input_columns checked.diagram))
    (fits : FitsColumns (input_columns checked.diagram) rows) (made : ColumnsMakeStimulus) (kept : ColumnsComeBack) where
  abbrev attributes : Attributes
  attributes = attributes_of checked.diagram

  abbrev numbers_at : ℕ → List ℤ
  numbers_at t = take rows.columns (drop (t * rows.columns) rows.cells)

  row-is : (t : ℕ) → IsRowOf checked.diagram attributes (stimulus_of checked.diagram rows) t (numbers_at t)
  row-is t = λ place e there hits.
      let elements = root_inputs checked.diagram attributes in
      let within : place < rows.columns = subst (λ n. place < n) (sym (columns ∙ length-map elements column_of)) (there_within elements place e there) in
      index-part rows.cells (t * rows.columns) rows.columns place within ∙ sym (kept checked.diagram attributes (number_in rows) place e t is.wired there)

  module _ (before : Responding) (t : ℕ) (below : t < rows.lines) (stood : IsBefore checked rows before t) where
    pub is-at : (table : Table) → SolvesRows checked rows table → IsAt checked before.sim (numbers_at t) (stimulus_of checked.diagram rows) rows.lines table
    is-at table solves = record {
      below = subst (λ n. n < rows.lines) (sym stood.samples) below;
      is_stimulus = stimulus-is checked.diagram rows is columns fits made;
      solves = solves;
      stands = subst (λ (n : ℕ). Stands checked.diagram attributes before.sim table n) (sym stood.samples) (stood.stands table solves);
      row_is = subst (λ (n : ℕ). IsRowOf checked.diagram attributes (stimulus_of checked.diagram rows) n (numbers_at t)) (sym stood.samples) (row-is t);
    }

    module _ (later : Responding) (out : List ℤ) (row_is : row_of later ≡ out) (long : length out ≡ length (row_of before)) (sim_of : IsSimOf checked later.sim)
        (samples : later.sim.samples ≡ before.sim.samples + 1) (stepped : IsStepped checked before.sim later.sim (numbers_at t) out) where
      shows-now : (table : Table) → SolvesRows checked rows table → out ≡ shown checked.diagram table t
      shows-now table solves =
          let elements = root_outputs checked.diagram attributes in
          by-places (λ (e : RootElement). table e.block 1 e.element t) elements out (long ∙ stood.wide ∙ length-map elements column_of)
          (λ place e there. (stepped (stimulus_of checked.diagram rows) rows.lines table (is-at table solves)).1 place e there ∙ ap (λ n. table e.block 1 e.element n) stood.samples)

      row-at : IsRowAt checked rows t (row_of later)
      row-at = record { each = λ lines response. row_is ∙ shows-now response.table response.solves ∙ sym (response.lines_are t below) }

      before-next : IsBefore checked rows later (t + 1)
      before-next = record {
        columns = columns;
        fits = fits;
        few = stood.few;
        wide = ap length row_is ∙ long ∙ stood.wide;
        sim_of = sim_of;
        samples = samples ∙ ap (λ n. n + 1) stood.samples;
        stands = λ table solves.
            let next : suc before.sim.samples ≡ t + 1 = (let e = stood.samples in omega (arith, e)) in
            subst (λ (n : ℕ). Stands checked.diagram attributes later.sim table n) next (stepped (stimulus_of checked.diagram rows) rows.lines table (is-at table solves)).0;
      }

      pub moved-on : IsBefore checked rows later (t + 1) × IsRowAt checked rows t (row_of later)
      moved-on = (before-next, row-at)

-- ---- the first sample

pub before-first : (checked : CheckedDiagram) (rows : Rows) (responding : Responding)
    → rows.columns ≡ length (input_columns checked.diagram) → FitsColumns (input_columns checked.diagram) rows
    → rows.lines < 2 ^ 63
    → length (row_of responding) ≡ length (output_columns checked.diagram) → IsSimOf checked responding.sim
    → ((table : Table) → Stands checked.diagram (attributes_of checked.diagram) responding.sim table 0)
    → IsBefore checked rows responding 0
before-first checked rows responding columns fits few wide sim_of stands = record {
  columns = columns;
  fits = fits;
  few = few;
  wide = wide;
  sim_of = sim_of;
  samples = (stands (λ block port element t. pos 0)).samples;
  stands = λ table solves. stands table;
}

-- a part of the numbers, as it is cut
pub part-is : (start count : ℕ) (numbers cells : List ℤ) → numbers ≡ cells → take (start + count - start) (drop start numbers) ≡ take count (drop start cells)
part-is start count numbers cells same =
    let e : start + count - start ≡ count = omega arith in
    ap (λ n. take n (drop start numbers)) e ∙ ap (λ (xs : List ℤ). take count (drop start xs)) same
