-- What simulations of a model and runs of what is generated of it show of its filters.
use Rattle.std.proofs.Common.{◌≡◌, ℕ, ◌<◌, ◌%◌, ℤ, List, Option, None, Some, slice_get, ◌∙◌, ap, subst}
use Rattle.std.specs.Prelude.{unwrap_or}
use Rattle.fx_type.specs.declared.decimal.Decimal.{Decimal}
use Rattle.math_list.proofs.Places.{there_map}
use Rattle.dg_model.specs.Attributes.{attributes_of}
use Rattle.dg_model.specs.Convolution.{tap}
use Rattle.dg_model.specs.Hits.{Hits, counted_hits}
use Rattle.dg_model.specs.RootElements.{RootElement, root_outputs}
use Rattle.dg_model.specs.Signals.{Stimulus, Table}
use Rattle.dg_response.specs.Response.{number_in, stimulus_of}
use Rattle.fir_block.specs.declared.filter.Fir.{Fir}
use Rattle.fx_top.specs.Simulated.{IsSimulationOf}
use Rattle.cmd_generate.specs.Generated.{IsVerilogOf}
use Rattle.hw_module.specs.Carries.{IsDrivenRun}
use Rattle.hw_module.specs.Interface.{NamedElement, output_elements}
use Rattle.laws_commands.specs.Laws.{DiagramsAreOrdered, SimulationsAreStimulated}
use Rattle.laws_filters.specs.Laws.{IsSolved}
use Rattle.vl_ast.specs.Runs.{Rows}
use Rattle.vl_ast.specs.Windows.{Window}
use Rattle.laws_convolved.specs.Commands.{SimulatesFilter, SimulationsConvolve, CarriesFilter, GeneratedConvolve}
use Rattle.laws_convolved.specs.Commands.{OutputShows}
use Rattle.laws_convolved.specs.Laws.{taps_of, first_of}
use Rattle.laws_convolved.specs.Shown.{ConvolvesColumn, ShowsFilter, HasFilterAt, ModelsConvolve}
use Rattle.laws_convolved.specs.inner.LawsBelow.{AreKnown}
use Rattle.laws_convolved.proofs.OutputPlaces.{root_there}

module _ (known : AreKnown) (ordered : DiagramsAreOrdered) (stimulated : SimulationsAreStimulated)
    (models : ModelsConvolve)
    (other : Decimal) (place : ℕ) (fir : Fir) where
  -- ---- a simulation

  module _ {model stimulus text : List ℕ} (s : IsSimulationOf model stimulus text)
      (at : HasFilterAt s.accepted place fir) where
    order : (order : List ℕ) × IsSolved s.diagram order (stimulus_of s.diagram s.rows) s.rows.lines s.shown.table
    order =
        let own = ordered s.diagram s.accepted.checked in
        (own.0, record { ordered = own.1; stimulated = stimulated model stimulus text s; solves = s.shown.solves })

    shows : ShowsFilter other s.diagram (first_of s.accepted.flat.nested place) fir
        (stimulus_of s.diagram s.rows) s.rows.lines s.shown.table
    shows =
        models model s.diagram s.accepted place fir at other order.0
        (stimulus_of s.diagram s.rows) s.rows.lines s.shown.table order.1

    abbrev counted : ℕ → List ℕ
    counted t =
        counted_hits s.shown.table shows.filter.enable shows.filter.reset
        ((attributes_of s.diagram).period_at (tap (first_of s.accepted.flat.nested place) 1)) t

    -- the number in a line is the table's
    line_at : (to t : ℕ) (y : RootElement) → slice_get (root_outputs s.diagram (attributes_of s.diagram)) to ≡ Some y
        → t < s.rows.lines → slice_get (s.lines t) to ≡ Some (s.shown.table y.block 1 y.element t)
    line_at to t y there early =
        ap (λ (line : List ℤ). slice_get line to) (s.shown.lines_are t early)
        ∙ there_map (λ (e : RootElement). s.shown.table e.block 1 e.element t)
        (root_outputs s.diagram (attributes_of s.diagram)) to y there

    simulates : SimulatesFilter other s (first_of s.accepted.flat.nested place) fir
    simulates = record {
      shows = shows;
      entries = λ to t y there feeds early hit.
          line_at to t y there early ∙ ap (λ (v : ℤ). Some v) (shows.outputs to t y there feeds early hit);
      columns = λ from to t u y joins early hit.
          let back : (stimulus_of s.diagram s.rows) u.number u.element ≡ number_in s.rows from =
          (λ i h. known.kept s.diagram (attributes_of s.diagram)
          (number_in s.rows) from u h s.accepted.checked.wired joins.input_is i) in (
            s.shown.table y.block 1 y.element t,
            line_at to t y joins.output_is early,
            subst (λ (column : ℕ → ℤ). ConvolvesColumn (attributes_of s.diagram) column
                (first_of s.accepted.flat.nested place)
                (taps_of other fir) shows.filter.sum (counted t) t (s.shown.table y.block 1 y.element t))
                back (shows.columns from to t u y joins early hit),
          );
    }

  -- ---- a run

  module _ {model plan text : List ℕ} (g : IsVerilogOf model plan text) (at : HasFilterAt g.design.accepted place fir)
      (samples : ℕ)
      (window : Window) (stimulus : Stimulus) (table : Table) (rows : Rows)
      (run : IsDrivenRun g.written.made g.diagram samples window stimulus table rows) where
    run_order : (order : List ℕ) × IsSolved g.diagram order stimulus samples table
    run_order =
        let own = ordered g.diagram g.design.accepted.checked in
        (own.0, record { ordered = own.1; stimulated = run.in_range; solves = run.solves })

    carried : ShowsFilter other g.diagram (first_of g.design.accepted.flat.nested place) fir stimulus samples table
    carried = models model g.diagram g.design.accepted place fir at other run_order.0 stimulus samples table run_order.1

    -- the output of a hit shows the table's number
    shown_at : (to t : ℕ) (y : NamedElement)
        → slice_get (output_elements g.written.so.carries.names g.diagram) to ≡ Some y
        → t < samples → Hits y.root.period t
        → OutputShows g.written.made g.diagram g.resolved g.timing window run.inputs rows y t
        (table y.root.block 1 y.root.element t)
    shown_at to t y there early hit =
        g.written.so.carries.bits samples window stimulus table rows run to y there t early (by y.root.period hit)
      where
        by : (period : Option ℕ) → Hits period t → t % unwrap_or period 1 ≡ 0
        by None hit = ap (λ (s : ℕ). s % 1) hit
        by (Some period) hit = hit

    carries : CarriesFilter other g (first_of g.design.accepted.flat.nested place) fir samples window stimulus table
        rows run
    carries = record {
      shows = carried;
      entries = λ to t y there feeds early hit.
          subst (λ (v : ℤ). OutputShows g.written.made g.diagram g.resolved g.timing window run.inputs rows y t v)
          (carried.outputs to t y.root (root_there g.written.so.carries.names g.diagram to y there) feeds early hit)
          (shown_at to t y there early hit);
      columns = λ from to t u y there joins early hit. (
        table y.root.block 1 y.root.element t,
        shown_at to t y there early hit,
        carried.columns from to t u y.root joins early hit,
      );
    }

pub simulations_convolve : AreKnown → DiagramsAreOrdered → SimulationsAreStimulated → ModelsConvolve
    → SimulationsConvolve
simulations_convolve known ordered stimulated models model stimulus text s place fir at other =
    simulates known ordered stimulated models other place fir s at

pub generated_convolve : AreKnown → DiagramsAreOrdered → SimulationsAreStimulated → ModelsConvolve → GeneratedConvolve
generated_convolve known ordered stimulated models model plan text g place fir at other samples window stimulus table
    rows run =
    carries known ordered stimulated models other place fir g at samples window stimulus table rows run
