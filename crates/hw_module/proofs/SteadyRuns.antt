-- The counted rows of a driven run are a driven run in which every row counts.
use Rattle.std.proofs.Common.{◌≡◌, ◌+◌, ◌-◌, ◌<◌, ℕ, suc, List, ℤ, ap, ◌∙◌, arith}
use Rattle.dg_model.specs.declared.diagram.Diagram.{Diagram}
use Rattle.dg_model.specs.Signals.{Stimulus, Table}
use Rattle.vl_ast.specs.declared.modules.Module.{Module}
use Rattle.vl_ast.specs.Runs.{Rows}
use Rattle.vl_ast.specs.Stalls.{AreThinned, thin_window}
use Rattle.vl_ast.specs.Windows.{IsClock, Shows, Window, counts_at, row_at}
use Rattle.vl_ast.proofs.Layers.{value_by_layer}
use Rattle.vl_ast.proofs.Thin.{counted-above}
use Rattle.vl_ast.proofs.StallFree.{are-thinned}
use Rattle.vl_ast.proofs.FullCounts.{enabled-count, shows-clocks, thinned-driven, thinned-shows}
use Rattle.hw_net.specs.Circuit.{Circuit}
use Rattle.hw_module.specs.Carries.{IsDrivenRun}
use Rattle.hw_module.specs.inner.Emission.{IsEmissionOf}
use Rattle.hw_module.specs.inner.Steady.{IsSteadyRun, ShowsThroughout}
use Rattle.hw_module.proofs.Ports.{can-stall}

module _ {netlist : Circuit} {m : Module} (made : IsEmissionOf netlist m) {diagram : Diagram} {samples : ℕ} {window : Window} {stimulus : Stimulus} {table : Table} {rows : Rows}
    (run : IsDrivenRun m diagram samples window stimulus table rows) where
  pub thinned : AreThinned m window run.inputs rows
  thinned = are-thinned value_by_layer m made.conditions.acyclic made.conditions.clocked (can-stall made) made.keeps window run.start run.inputs rows run.driven.reset run.runs

  pub steady-run : IsSteadyRun m diagram samples (thin_window m window run.inputs) stimulus table thinned.thin_rows
  steady-run = record {
    run = record {
      start = thinned.start;
      inputs = thinned.thin_inputs;
      in_range = run.in_range;
      solves = run.solves;
      driven = thinned-driven m window run.inputs rows thinned _ samples run.driven;
      runs = thinned.runs;
    };
    enabled = thinned.enabled;
  }

  -- what a name shows there it shows at the clocks
  pub clocks-show : (name : List ℕ) (width : ℕ) (number : ℤ) (from until : ℕ) → ShowsThroughout (thin_window m window run.inputs) thinned.thin_rows name width number from until
      → Shows m window run.inputs rows name width number from until
  clocks-show name width number from until shows =
      thinned-shows m window run.inputs rows thinned name width number from until
      (shows-clocks m (thin_window m window run.inputs) thinned.thin_inputs
      (enabled-count m (thin_window m window run.inputs) thinned.thin_inputs thinned.enabled) thinned.thin_rows
      name width number from until shows)

  -- a clock is a row there, and has its bits
  pub clock-below : (clock place : ℕ) → IsClock m window run.inputs clock place → row_at (thin_window m window run.inputs) clock < (thin_window m window run.inputs).rows
  clock-below clock place is =
      let w = is.within in
      let above = counted-above (counts_at m window run.inputs) (window.rows - (window.last_reset + 1)) place (omega (arith, w)) is.counts in
      let n = is.number in
      omega (arith, above, n)

  pub clock-row : (clock place : ℕ) → IsClock m window run.inputs clock place → thinned.thin_rows (row_at (thin_window m window run.inputs) clock) ≡ rows (row_at window place)
  clock-row clock place is =
      let here : 0 + 1 + clock ≡ suc clock = omega arith in
      ap (λ (j : ℕ). thinned.thin_rows j) here ∙ thinned.rows_are clock place is
