-- What `simulate` and `generate` make of the filters of a model's text (own).
use Rattle.std.specs.Prelude.{◌≡◌, ℕ, ◌+◌, ◌*◌, ◌<◌, ℤ, List, Some, slice_get}
use Rattle.fx_type.specs.declared.decimal.Decimal.{Decimal}
use Rattle.fx_type.specs.FxType.{width_of}
use Rattle.dg_model.specs.declared.diagram.Diagram.{Diagram}
use Rattle.dg_model.specs.declared.resolved.Resolved.{Resolved}
use Rattle.dg_model.specs.Attributes.{attributes_of}
use Rattle.dg_model.specs.Convolution.{IsFed, tap, sum_of, shown_to}
use Rattle.dg_model.specs.Hits.{Hits, counted_hits}
use Rattle.dg_model.specs.RootElements.{RootElement, root_outputs}
use Rattle.dg_model.specs.Signals.{Stimulus, Table}
use Rattle.dg_response.specs.Response.{number_in, stimulus_of}
use Rattle.fir_block.specs.declared.filter.Fir.{Fir}
use Rattle.fx_top.specs.Simulated.{IsSimulationOf}
use Rattle.cmd_generate.specs.Generated.{IsVerilogOf}
use Rattle.hw_arcs.specs.Latencies.{latency_at}
use Rattle.hw_module.specs.Carries.{IsDrivenRun}
use Rattle.hw_module.specs.Interface.{NamedElement, output_elements, step_of}
use Rattle.hw_sched.specs.Ready.{declared_latency}
use Rattle.hw_sched.specs.Slots.{Timing}
use Rattle.vl_ast.specs.declared.modules.Module.{Module}
use Rattle.vl_ast.specs.Runs.{Rows}
use Rattle.vl_ast.specs.Windows.{Shows, Window}
use Rattle.laws_convolved.specs.Laws.{taps_of, first_of, out_of}
use Rattle.laws_convolved.specs.Shown.{ConvolvesColumn, JoinsRoots, ShowsFilter, HasFilterAt}

-- in a simulation a filter's number in the response is the convolution of its coefficients with its
-- column of the stimulus
pub record SimulatesFilter (other : Decimal) {model stimulus text : List ℕ}
    (simulation : IsSimulationOf model stimulus text) (first : ℕ) (fir : Fir) : Type 0 where
  pub shows : ShowsFilter other simulation.diagram first fir
      (stimulus_of simulation.diagram simulation.rows) simulation.rows.lines simulation.shown.table
  pub entries : (to t : ℕ) (output : RootElement)
      → slice_get (root_outputs simulation.diagram (attributes_of simulation.diagram)) to ≡ Some output
      → IsFed simulation.diagram (out_of first (taps_of other fir)) output.block 1
      → t < simulation.rows.lines → Hits output.period t
      → slice_get (simulation.lines t) to
      ≡ Some (shown_to (attributes_of simulation.diagram) simulation.shown.table
      (sum_of first (taps_of other fir)) output.element t)
  pub columns : (from to t : ℕ) (input output : RootElement)
      → JoinsRoots simulation.diagram first (taps_of other fir) from to input output
      → t < simulation.rows.lines → Hits output.period t → (v : ℤ)
      × (slice_get (simulation.lines t) to ≡ Some v)
      × ConvolvesColumn (attributes_of simulation.diagram) (number_in simulation.rows from) first
      (taps_of other fir) shows.filter.sum
      (counted_hits simulation.shown.table shows.filter.enable shows.filter.reset
      ((attributes_of simulation.diagram).period_at (tap first 1)) t) t v

-- so it is in each simulation of a model, of each of its filters
abbrev pub SimulationsConvolve : Type 0
SimulationsConvolve =
    (model stimulus text : List ℕ) (simulation : IsSimulationOf model stimulus text)
    (place : ℕ) (fir : Fir) → HasFilterAt simulation.accepted place fir → (other : Decimal)
    → SimulatesFilter other simulation (first_of simulation.accepted.flat.nested place) fir

-- in a run of a module an output shows a number of base sample t, from its latency to the end of its
-- frame
abbrev pub OutputShows : Module → Diagram → Resolved → Timing → Window → Rows → Rows → NamedElement
    → ℕ → ℤ → Type 0
OutputShows made diagram plan timing window inputs rows output t v =
    Shows made window inputs rows output.name (width_of output.root.type) v
    (t * plan.cycles
    + declared_latency diagram (attributes_of diagram) plan timing output.root.block)
    ((t + latency_at timing.lat output.root.block + step_of output.root) * plan.cycles)

-- in a run of a generated module, reset and then driven by a stimulus, a filter's outputs show the
-- convolution of its coefficients with its input, each number in its window
pub record CarriesFilter (other : Decimal) {model plan text : List ℕ}
    (generated : IsVerilogOf model plan text) (first : ℕ) (fir : Fir) (samples : ℕ)
    (window : Window) (stimulus : Stimulus) (table : Table) (rows : Rows)
    (run : IsDrivenRun generated.written.made generated.diagram samples window stimulus table
    rows) : Type 0 where
  pub shows : ShowsFilter other generated.diagram first fir stimulus samples table
  pub entries : (to t : ℕ) (output : NamedElement)
      → slice_get (output_elements generated.written.so.carries.names generated.diagram) to
      ≡ Some output
      → IsFed generated.diagram (out_of first (taps_of other fir)) output.root.block 1
      → t < samples → Hits output.root.period t
      → OutputShows generated.written.made generated.diagram generated.resolved generated.timing
      window run.inputs rows output t
      (shown_to (attributes_of generated.diagram) table (sum_of first (taps_of other fir))
      output.root.element t)
  pub columns : (from to t : ℕ) (input : RootElement) (output : NamedElement)
      → slice_get (output_elements generated.written.so.carries.names generated.diagram) to
      ≡ Some output
      → JoinsRoots generated.diagram first (taps_of other fir) from to input output.root
      → t < samples → Hits output.root.period t → (v : ℤ)
      × OutputShows generated.written.made generated.diagram generated.resolved generated.timing
      window run.inputs rows output t v
      × ConvolvesColumn (attributes_of generated.diagram) (stimulus input.number input.element)
      first (taps_of other fir) shows.filter.sum
      (counted_hits table shows.filter.enable shows.filter.reset
      ((attributes_of generated.diagram).period_at (tap first 1)) t) t v

-- so it is in each such run of what is generated of a model by a plan, of each of its filters
abbrev pub GeneratedConvolve : Type 0
GeneratedConvolve =
    (model plan text : List ℕ) (generated : IsVerilogOf model plan text) (place : ℕ) (fir : Fir)
    → HasFilterAt generated.design.accepted place fir → (other : Decimal) (samples : ℕ)
    (window : Window) (stimulus : Stimulus) (table : Table) (rows : Rows)
    (run : IsDrivenRun generated.written.made generated.diagram samples window stimulus table rows)
    → CarriesFilter other generated (first_of generated.design.accepted.flat.nested place) fir
    samples window stimulus table rows run
