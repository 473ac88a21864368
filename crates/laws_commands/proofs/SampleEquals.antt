-- All twelve fields of a sample are equal, where its diagram has the columns of samples.
use Rattle.std.proofs.Common.{◌≡◌, ℕ, ◌≤◌, ◌<◌, ℤ, inl, inr, List, [], ◌∷◌, length, map, suc, None, refl, sym, ap, subst, ◌∙◌, arith}
use Rattle.laws_commands.specs.Laws.{SamplesAreEqual}
use Rattle.laws_samples.specs.Columns.{HasSampleColumns, word_column}
use Rattle.laws_commands.specs.inner.LawsBelow.{AreKnown}
use Rattle.laws_commands.proofs.Replays.{is-accepted}
use Rattle.laws_commands.proofs.SampleFields.{all-equal}
use Rattle.laws_commands.proofs.SampleRows.{eight-lines, stimulus-good}
use Rattle.laws_commands.proofs.Samples.{samples-agree}
use Rattle.cmd_generate.specs.Generated.{IsVerilogOf}
use Rattle.cmd_replay.specs.Benched.{IsTold}
use Rattle.cmd_sample.specs.ModelText.{sample_model}
use Rattle.cmd_sample.specs.Stimulus.{sample_plan, sample_stimulus}
use Rattle.cmd_sample.specs.Summary.{equal_count, summary_text}
use Rattle.cmd_simulate.specs.Simulating.{fault_in, output_periods}
use Rattle.dg_model.specs.declared.diagram.Diagram.{Diagram}
use Rattle.dg_model.specs.Attributes.{attributes_of}
use Rattle.dg_model.specs.RootElements.{root_outputs}
use Rattle.dg_response.specs.Response.{column_of, input_columns, output_columns}
use Rattle.fx_tables.specs.declared.table.Column.{Column}
use Rattle.fx_tables.specs.Response.{response}
use Rattle.fx_tables.specs.Stimulus.{stimulus_fault}
use Rattle.fx_top.specs.Simulated.{CanBeSimulated, IsSimulationOf}
use Rattle.fx_top.specs.Summarized.{IsSampleResponse, IsSummaryOf}
use Rattle.vl_ast.specs.Grammar.{most_items}
use Rattle.vl_ast.specs.Spelling.{spelling}

mapped-length : {A B : Type 0} (f : A → B) (xs : List A) → length (map f xs) ≡ length xs
mapped-length f [] = refl
mapped-length f (x ∷ xs) = ap suc (mapped-length f xs)

module _ (known : AreKnown) (count : ℕ) (told text : List ℕ) (summary : IsSummaryOf IsTold count told text) (few : length summary.own.items ≤ most_items)
    (columns : HasSampleColumns summary.diagram) where
  abbrev generated : IsVerilogOf (sample_model count) sample_plan (spelling summary.own)
  generated = record {
    diagram = summary.diagram;
    resolved = summary.plan;
    timing = summary.timing;
    design = summary.design;
    written = record { made = summary.own; spelled = refl; alone = summary.alone; so = summary.owed };
  }

  -- two outputs
  two-columns : (diagram : Diagram) → output_periods diagram ≡ 1 ∷ 2 ∷ [] → length (output_columns diagram) ≡ 2
  two-columns diagram periods = sym (mapped-length (λ (column : Column). column.period) (output_columns diagram)) ∙ ap (λ (ps : List ℕ). length ps) periods

  two-elements : (diagram : Diagram) → output_periods diagram ≡ 1 ∷ 2 ∷ [] → length (root_outputs diagram (attributes_of diagram)) ≡ 2
  two-elements diagram periods = sym (mapped-length column_of (root_outputs diagram (attributes_of diagram))) ∙ two-columns diagram periods

  fits : (diagram : Diagram) → input_columns diagram ≡ word_column ∷ [] → output_periods diagram ≡ 1 ∷ 2 ∷ [] → fault_in diagram (sample_stimulus count) ≡ None
  fits diagram inputs periods =
      ap (λ (cs : List Column). stimulus_fault cs (length (output_columns diagram)) (sample_stimulus count)) inputs
      ∙ ap (λ (outputs : ℕ). stimulus_fault (word_column ∷ []) outputs (sample_stimulus count)) (two-columns diagram periods)
      ∙ stimulus-good count

  can-be-simulated : CanBeSimulated (sample_model count) (sample_stimulus count)
  can-be-simulated = record {
    accepted = is-accepted known generated;
    good = λ diagram model.
        let same : summary.diagram ≡ diagram = known.diagram (sample_model count) summary.diagram diagram summary.design.accepted model in
        subst (λ (d : Diagram). fault_in d (sample_stimulus count) ≡ None) same (fits summary.diagram columns.inputs columns.outputs);
  }

  simulation-equals : (told-by : List ℕ) → IsSimulationOf (sample_model count) (sample_stimulus count) told-by → equal_count told-by told-by ≡ 12
  simulation-equals told-by simulation =
      let same : summary.diagram ≡ simulation.diagram = known.diagram (sample_model count) summary.diagram simulation.diagram summary.design.accepted simulation.accepted in
      let periods : output_periods simulation.diagram ≡ 1 ∷ 2 ∷ [] = subst (λ (d : Diagram). output_periods d ≡ 1 ∷ 2 ∷ []) same columns.outputs in
      let eight : simulation.rows.lines ≡ 8 = simulation.rows_are.line_count ∙ eight-lines count in
      let whole : told-by ≡ response (1 ∷ 2 ∷ []) simulation.lines 8 =
      simulation.text_is ∙ ap (λ (ps : List ℕ). response ps simulation.lines simulation.rows.lines) periods ∙ ap (response (1 ∷ 2 ∷ []) simulation.lines) eight in
      let wide : (sample : ℕ) → sample < 8 → 2 ≤ length (simulation.lines sample) = λ sample below.
      let shown = simulation.shown.lines_are sample (omega (arith, below, eight)) in
      let size : length (simulation.lines sample) ≡ 2 =
      ap (λ (values : List ℤ). length values) shown ∙ mapped-length _ (root_outputs simulation.diagram (attributes_of simulation.diagram)) ∙ two-elements simulation.diagram periods in
      omega (arith, size) in
      subst (λ (bytes : List ℕ). equal_count bytes bytes ≡ 12) (sym whole) (all-equal simulation.lines wide)

  response-equals : IsSampleResponse count summary.response → equal_count summary.response summary.response ≡ 12
  response-equals (inl simulation) = simulation-equals summary.response simulation
  response-equals (inr (never, nothing)) = absurd (never can-be-simulated)

  all-twelve : text ≡ summary_text count summary.made 12
  all-twelve =
      summary.text_is
      ∙ ap (λ (bytes : List ℕ). summary_text count summary.made (equal_count summary.response bytes)) (samples-agree known count told text summary few)
      ∙ ap (summary_text count summary.made) (response-equals summary.simulated)

pub samples-are-equal : AreKnown → SamplesAreEqual
samples-are-equal known count told text summary few columns = all-twelve known count told text summary few columns
