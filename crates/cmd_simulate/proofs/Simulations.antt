-- What a simulation and the writer of its lines are, and which line of a stimulus is bad.
use Rattle.std.proofs.Common.{◌≡◌, ◌≢◌, ◌<◌, ◌+◌, ◌++◌, ℕ, suc, ℤ, List, [], length, map, Option, None, Some, append-nil, refl, sym, ap, subst, ◌∙◌, arith}
use Rattle.std.proofs.lemmas.List.{length-map}
use Rattle.dg_model.specs.Checked.{CheckedDiagram}
use Rattle.dg_model.specs.declared.diagram.Diagram.{Diagram}
use Rattle.dg_response.specs.declared.root_columns.RootColumns.{RootColumns}
use Rattle.dg_response.specs.Laws.{SomeResponds, SomeResponse}
use Rattle.dg_response.specs.Responding.{IsRowAt}
use Rattle.dg_response.specs.Response.{IsResponse, input_columns, output_columns}
use Rattle.dg_tables.specs.Laws.{IsOrdered}
use Rattle.fx_io.specs.Sink.{TookProperPrefix, also_took}
use Rattle.fx_tables.specs.declared.table.Column.{Column}
use Rattle.fx_tables.specs.declared.table.Rows.{Rows}
use Rattle.fx_tables.specs.declared.table.TableFault.{TableFault}
use Rattle.fx_tables.specs.declared.table.TableFault.TheVariants.{Bad, OutOfMemory}
use Rattle.fx_tables.specs.Response.{response, response_line}
use Rattle.fx_tables.specs.RowText.{periods_of}
use Rattle.fx_tables.specs.Stimulus.{FitsColumns, IsRows, stimulus_fault}
use Rattle.cmd_simulate.specs.declared.simulation.Simulation.{Simulation}
use Rattle.cmd_simulate.specs.Simulating.{AreLines, IsSimulationIn, IsStimulusFault, TookLines, TookPartOfLines, output_periods}
use Rattle.cmd_simulate.specs.inner.Columns.{HasColumns, IsReadyFor}
use Rattle.fx_tables.proofs.ResponseLines.{took-part}
use Rattle.fx_io.proofs.SinkBytes.{also_took-append}

-- ---- what is ready

pub responds : SomeResponds → (diagram : Diagram) (order : List ℕ) → IsOrdered diagram order → (columns : RootColumns) (rows : Rows) → HasColumns diagram columns
    → rows.columns ≡ length columns.inputs → FitsColumns columns.inputs rows → SomeResponse diagram rows
unfolding HasColumns
responds some diagram order ordered columns rows has count fits =
    some diagram order rows ordered (count ∙ ap length has.0) (subst (λ (own : List Column). FitsColumns own rows) has.0 fits)

pub made-ready : (checked : CheckedDiagram) (stimulus : List ℕ) (rows : Rows) (columns : RootColumns) (inputs outputs : List Column) (ready : Simulation) → HasColumns checked.diagram columns
    → inputs ≡ columns.inputs → outputs ≡ columns.outputs → IsRows inputs (length outputs) stimulus rows → IsReadyFor checked columns rows ready → IsSimulationIn checked stimulus ready
unfolding HasColumns
made-ready checked stimulus rows columns inputs outputs ready has ins outs are is =
    let diagram = checked.diagram in
    let number : length outputs ≡ length (output_columns diagram) = ap length (outs ∙ has.1) in
    let steps : periods_of ready.text ≡ output_periods diagram = is.periods ∙ ap (λ (own : List Column). map (λ (column : Column). column.period) own) has.1 in
    record {
      rows_are = subst (λ (own : Rows). IsRows (input_columns diagram) (length (output_columns diagram)) stimulus own) (sym is.rows_are)
          (subst (λ (own : List Column). IsRows own (length (output_columns diagram)) stimulus rows) (ins ∙ has.0) (subst (λ (n : ℕ). IsRows inputs n stimulus rows) number are));
      response = is.response;
      before = is.before;
      periods = steps;
      wide = is.before.wide ∙ sym (ap length steps ∙ length-map (output_columns diagram) (λ (column : Column). column.period));
    }

-- ---- lines

module _ (checked : CheckedDiagram) (rows : Rows) (periods : List ℕ) (t : ℕ) where
  -- a line by the periods that stay
  line-of : (own : List ℕ) (numbers : List ℤ) (line : List ℕ) → own ≡ periods → IsRowAt checked rows t numbers → line ≡ response_line own t numbers
      → (lines : ℕ → List ℤ) → IsResponse checked.diagram rows lines → line ≡ response_line periods t (lines t)
  line-of own numbers line kept at is lines shown =
      is ∙ ap (λ (p : List ℕ). response_line p t numbers) kept ∙ ap (λ (row : List ℤ). response_line periods t row) (at.each lines shown)

  pub more_lines : (own : List ℕ) (numbers : List ℤ) (line text : List ℕ) → own ≡ periods → IsRowAt checked rows t numbers → line ≡ response_line own t numbers
      → AreLines checked rows periods t text → AreLines checked rows periods (t + 1) (text ++ line)
  more_lines own numbers line text kept at is are = record {
    each = λ lines shown. ap (λ (xs : List ℕ). xs ++ line) (are.each lines shown) ∙ ap (λ (xs : List ℕ). response periods lines t ++ xs) (line-of own numbers line kept at is lines shown)
        ∙ ap (response periods lines) (next t);
  }
    where
      next : (n : ℕ) → suc n ≡ n + 1
      next n = omega arith

  pub took_line : (own : List ℕ) (numbers : List ℤ) (line : List ℕ) (before mid now : Option (List ℕ)) → own ≡ periods → IsRowAt checked rows t numbers → line ≡ response_line own t numbers
      → TookLines checked rows periods t before mid → now ≡ also_took mid line → TookLines checked rows periods (t + 1) before now
  took_line own numbers line before mid now kept at is took more = record {
    each = λ lines shown. more ∙ ap (λ (state : Option (List ℕ)). also_took state line) (took.each lines shown) ∙ also_took-append before (response periods lines t) line
        ∙ ap (λ (xs : List ℕ). also_took before (response periods lines t ++ xs))
        (line-of own numbers line kept at is lines shown)
        ∙ ap (λ (n : ℕ). also_took before (response periods lines n)) (next t);
  }
    where
      next : (n : ℕ) → suc n ≡ n + 1
      next n = omega arith

  pub took_part_of_line : (own : List ℕ) (numbers : List ℤ) (line : List ℕ) (before mid now : Option (List ℕ)) → own ≡ periods → IsRowAt checked rows t numbers → line ≡ response_line own t numbers
      → t < rows.lines → TookLines checked rows periods t before mid → TookProperPrefix mid now line → TookPartOfLines checked rows periods before now
  took_part_of_line own numbers line before mid now kept at is below took part = record {
    each = λ lines shown. took-part periods lines t rows.lines before mid now below (took.each lines shown)
        (subst (λ (bytes : List ℕ). TookProperPrefix mid now bytes) (line-of own numbers line kept at is lines shown) part);
  }

pub no_lines : (checked : CheckedDiagram) (rows : Rows) (periods : List ℕ) → AreLines checked rows periods 0 []
no_lines checked rows periods = record { each = λ lines shown. refl }

pub took_none : (checked : CheckedDiagram) (rows : Rows) (periods : List ℕ) (before : Option (List ℕ)) → TookLines checked rows periods 0 before before
took_none checked rows periods None = record { each = λ lines shown. refl }
took_none checked rows periods (Some told) = record { each = λ lines shown. ap Some (sym (append-nil told)) }

-- ---- faults

-- a bad line by the columns of the diagram
pub of-rows : (diagram : Diagram) (stimulus : List ℕ) (columns : RootColumns) (inputs outputs : List Column) → HasColumns diagram columns → inputs ≡ columns.inputs → outputs ≡ columns.outputs
    → (fault : TableFault) → (fault ≢ OutOfMemory → stimulus_fault inputs (length outputs) stimulus ≡ Some fault) → IsStimulusFault diagram stimulus fault
unfolding HasColumns
of-rows diagram stimulus columns inputs outputs has ins outs (Bad line cause) why =
    ap (λ (own : List Column). stimulus_fault own (length (output_columns diagram)) stimulus) (sym (ins ∙ has.0)) ∙ ap (λ (n : ℕ). stimulus_fault inputs n stimulus) (sym (ap length (outs ∙ has.1)))
    ∙ why (λ same. absurd (cc same))
of-rows diagram stimulus columns inputs outputs has ins outs OutOfMemory why = tt
