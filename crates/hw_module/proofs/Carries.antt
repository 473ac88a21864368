-- The module of a netlist that is built for a diagram carries the diagram's table.
use Rattle.std.proofs.Common.{◌≡◌, ℕ, zero, suc, ◌+◌, ◌-◌, ◌*◌, ◌%◌, ◌<◌, ◌≤◌, List, [], ◌∷◌, ◌++◌, map, length, codes, None, Some, slice_get, Option, ap, sym, ◌∙◌, subst, arith}
use Rattle.std.specs.Option.{unwrap_or}
use Rattle.math_num.specs.Word.{InWord}
use Rattle.fx_type.specs.FxType.{is_signed, width_of}
use Rattle.dg_model.specs.declared.diagram.Diagram.{Diagram}
use Rattle.dg_model.specs.declared.resolved.Resolved.{Resolved}
use Rattle.dg_model.specs.Attributes.{attributes_of}
use Rattle.dg_model.specs.Hits.{Hits}
use Rattle.dg_model.specs.Laws.{StimulusGivesColumns}
use Rattle.dg_model.specs.RootElements.{RootElement, root_inputs, column_of_stimulus, number_for}
use Rattle.dg_model.specs.Signals.{Stimulus, Table}
use Rattle.vl_ast.specs.declared.modules.Module.{Module}
use Rattle.vl_ast.specs.Header.{bit_output, DataPort, attribute_of, bit_input, input_port, output_port, HasHeader}
use Rattle.vl_ast.specs.Windows.{Window, AtHits, row_at}
use Rattle.vl_ast.specs.Runs.{Rows}
use Rattle.vl_ast.specs.Value.{bits_of}
use Rattle.vl_ast.proofs.Layers.{value_by_layer}
use Rattle.vl_ast.proofs.StallFree.{are-thinned}
use Rattle.hw_names.specs.Names.{AreNames}
use Rattle.hw_build.specs.Places.{IsRunOf}
use Rattle.hw_module.specs.Interface.{NamedElement, named, step_of, input_elements, output_elements, input_data, output_data}
use Rattle.hw_module.specs.inner.Offers.{Offers}
use Rattle.hw_shows.specs.Shows.{IsSeen}
use Rattle.hw_net.specs.Circuit.{Circuit}
use Rattle.hw_arcs.specs.Latencies.{latency_at}
use Rattle.hw_sched.specs.Ready.{declared_latency}
use Rattle.hw_sched.specs.Slots.{Timing}
use Rattle.vl_emit.specs.Header.{data_port}
use Rattle.hw_net.specs.Products.{net_at}
use Rattle.vl_emit.specs.Shown.{inputs_from, rows_from}
use Rattle.hw_module.specs.Carries.{IsDrivenRun, Carries}
use Rattle.hw_module.specs.inner.Emission.{IsEmissionOf}
use Rattle.hw_module.specs.inner.Steady.{IsSteadyRun, ShowsThroughout}
use Rattle.hw_module.proofs.Lists.{paired, relabelled, got, get-below}
use Rattle.hw_module.proofs.Ports.{can-stall, enabled-rows, is-reset, input-shows, output-bits}
use Rattle.hw_module.proofs.SteadyRuns.{clocks-show, steady-run}
use Rattle.fx_type.proofs.Ranges.{range-word}

-- each root input takes a value again and again
abbrev pub InputsHavePeriods : Diagram → Type 0
InputsHavePeriods diagram = (place : ℕ) (e : RootElement) → slice_get (root_inputs diagram (attributes_of diagram)) place ≡ Some e → (period : ℕ) × (e.period ≡ Some period)

pub named-get : (names : List (List ℕ)) (roots : List RootElement) (k : ℕ) (e : NamedElement) → slice_get (named names roots) k ≡ Some e → slice_get roots k ≡ Some e.root
named-get [] roots k e is = absurd (cc is)
named-get (name ∷ names) [] k e is = absurd (cc is)
named-get (name ∷ names) (root ∷ roots) zero e is = ap (λ (o : Option NamedElement). root_or root o) is where
  root_or : RootElement → Option NamedElement → Option RootElement
  root_or root None = Some root
  root_or root (Some x) = Some x.root
named-get (name ∷ names) (root ∷ roots) (suc k) e is = named-get names roots k e is

named-has : (names : List (List ℕ)) (roots : List RootElement) → length roots ≤ length names → (k : ℕ) (e : RootElement) → slice_get roots k ≡ Some e
    → (name : List ℕ) × (slice_get (named names roots) k ≡ Some (record { name = name; root = e }))
named-has names [] h k e is = absurd (cc is)
named-has [] (root ∷ roots) h k e is = absurd (omega (arith, h))
named-has (name ∷ names) (root ∷ roots) h zero e is = (name, ap (named-some name) is) where
  named-some : List ℕ → Option RootElement → Option NamedElement
  named-some name None = None
  named-some name (Some x) = Some (record { name = name; root = x })
named-has (name ∷ names) (root ∷ roots) h (suc k) e is = named-has names roots (omega (arith, h)) k e is

hits-by : (period : Option ℕ) (p t : ℕ) → period ≡ Some p → t % p ≡ 0 → Hits period t
hits-by period p t is hit = subst (λ (o : Option ℕ). Hits o t) (sym is) hit

pub step-by : (e : RootElement) (p : ℕ) → e.period ≡ Some p → step_of e ≡ p
step-by e p is = ap (λ (o : Option ℕ). unwrap_or o 1) is

module _ {netlist : Circuit} {names : List (List ℕ)} {diagram : Diagram} {plan : Resolved} {timing : Timing} {m : Module}
    (built : Offers netlist names diagram plan timing) (made : IsEmissionOf netlist m) where
  pub has-header : HasHeader m plan.cycles (map (λ e. input_port (input_data e)) (input_elements names diagram))
      (map (λ e. output_port (output_data diagram plan timing e)) (output_elements names diagram))
  has-header =
      let ins = relabelled input_port (data_port netlist) input_data netlist.inputs (input_elements names diagram) built.ports.inputs in
      let outs = relabelled output_port (data_port netlist) (output_data diagram plan timing) netlist.outputs (output_elements names diagram) built.ports.outputs in
      record {
        name = made.header.name;
        attrs = made.header.attrs ∙ ap (λ (cycles : ℕ). attribute_of (codes "fx_cycles") cycles ∷ []) built.ports.cycles;
        ports = made.header.ports ∙ (λ i. bit_input (codes "clk") ∷ bit_input (codes "reset") ∷ bit_input (codes "clk_enable") ∷ (ins i ++ bit_output (codes "ce_out") ∷ outs i));
      }

  -- an output shows its entries in a run in which every row counts
  abbrev OutputShowsIn : ℕ → Window → Table → Rows → NamedElement → Type 0
  OutputShowsIn samples window table rows e =
      AtHits (step_of e.root) samples (λ t.
      ShowsThroughout window rows e.name (width_of e.root.type) (table e.root.block 1 e.root.element t)
      (t * plan.cycles + declared_latency diagram (attributes_of diagram) plan timing e.root.block)
      ((t + latency_at timing.lat e.root.block + step_of e.root) * plan.cycles))

  module _ (columns : StimulusGivesColumns) (periods : InputsHavePeriods diagram) {samples : ℕ} {window : Window} {stimulus : Stimulus} {table : Table} {rows : Rows}
      (steady : IsSteadyRun m diagram samples window stimulus table rows) where
    abbrev run : IsDrivenRun m diagram samples window stimulus table rows
    run = steady.run

    abbrev pub clocks : ℕ
    clocks = window.rows - (window.last_reset + 1)

    input-at : (place : ℕ) (e : NamedElement) → slice_get (input_elements names diagram) place ≡ Some e → (t clock : ℕ) → t < samples → clock < clocks
        → t % step_of e.root ≡ 0 → (t + 0) * netlist.cycles + 0 ≤ clock → clock < (t + 0 + step_of e.root) * netlist.cycles
        → inputs_from netlist window.last_reset rows place clock ≡ column_of_stimulus (root_inputs diagram (attributes_of diagram)) stimulus place t
    input-at place e is t clock early below hit from until =
        let x = paired (data_port netlist) input_data netlist.inputs (input_elements names diagram) built.ports.inputs place e is in
        let root = named-get names (root_inputs diagram (attributes_of diagram)) place e is in
        let p = periods place e.root root in
        let step = step-by e.root p.0 p.1 in
        let hits = hits-by e.root.period p.0 t p.1 (subst (λ (n : ℕ). t % n ≡ 0) step hit) in
        let within = range-word e.root.type (column_of_stimulus (root_inputs diagram (attributes_of diagram)) stimulus place t)
        (columns diagram (attributes_of diagram) stimulus samples run.in_range place e.root t root early hits) in
        let wide : (net_at netlist.nets x.0.net).width ≡ width_of e.root.type = ap (λ (d : DataPort). d.width) x.2 in
        let sign : (net_at netlist.nets x.0.net).signed ≡ is_signed e.root.type = ap (λ (d : DataPort). d.signed) x.2 in
        let stands : x.0.period ≡ step_of e.root = ap (λ (d : DataPort). d.period) x.2 in
        let word : InWord (net_at netlist.nets x.0.net).width (net_at netlist.nets x.0.net).signed
        (column_of_stimulus (root_inputs diagram (attributes_of diagram)) stimulus place t) =
        rw (wide, sign) within in
        let input = built.runs.inputs place x.0 x.1 in
        let there = get-below netlist.nets x.0.net input.net input.is in
        input-shows built.runs built.emittable made run.driven steady.enabled run.runs place x.0 x.1 t clock early
        (subst (λ (n : ℕ). t % n ≡ 0) (sym stands) hit) (omega (arith, from))
        (subst (λ (n : ℕ). clock < (t + n) * netlist.cycles) (sym stands) (omega (arith, until))) (omega (arith, below)) word there

    input-fed : (place : ℕ) (e : RootElement) (t clock : ℕ)
        → slice_get (root_inputs diagram (attributes_of diagram)) place ≡ Some e → t < samples → clock < clocks
        → IsSeen netlist.cycles e.period 0 0 t clock
        → inputs_from netlist window.last_reset rows place clock ≡ stimulus e.number e.element t
    input-fed place e t clock is early below seen =
        let p = periods place e is in
        let step = step-by e p.0 p.1 in
        let at = subst (λ (o : Option ℕ). IsSeen netlist.cycles o 0 0 t clock) p.1 seen in
        let x = named-has names (root_inputs diagram (attributes_of diagram)) built.ports.enough place e is in
        input-at place (record { name = x.0; root = e }) x.1 t clock early below (subst (λ (n : ℕ). t % n ≡ 0) (sym step) at.is_hit) at.from
        (subst (λ (n : ℕ). clock < (t + 0 + n) * netlist.cycles) (sym step) at.until)
        ∙ ap (λ (o : Option RootElement). number_for stimulus o t) is

    pub net-run : IsRunOf diagram netlist stimulus samples clocks (inputs_from netlist window.last_reset rows) (rows_from netlist window.last_reset rows) table
    net-run = record {
      stimulus_is = run.in_range;
      solves = run.solves;
      fed = record { shows = input-fed };
      rows_are = made.nets.are window.rows window.last_reset run.start run.inputs rows (is-reset built.runs built.emittable made run.driven steady.enabled run.runs)
          (enabled-rows built.runs built.emittable made run.driven steady.enabled run.runs);
    }

    pub output-shows : (place : ℕ) (e : NamedElement) → slice_get (output_elements names diagram) place ≡ Some e → OutputShowsIn samples window table rows e
    output-shows place e is t early hit clock from until below =
        let x = paired (data_port netlist) (output_data diagram plan timing) netlist.outputs (output_elements names diagram) built.ports.outputs place e is in
        let wide : (net_at netlist.nets x.0.net).width ≡ width_of e.root.type = ap (λ (d : DataPort). d.width) x.2 in
        let name : x.0.name ≡ e.name = ap (λ (d : DataPort). d.name) x.2 in
        let within : clock < clocks = omega arith in
        let entry = (built.outputs stimulus samples clocks (inputs_from netlist window.last_reset rows)
        (rows_from netlist window.last_reset rows) table net-run place x.0 e x.1 is).at t clock early within
        (record { is_hit = hit; from = omega (arith, from); until = until }) in
        ap (rows (row_at window clock)) (sym name)
        ∙ output-bits built.runs built.emittable made run.driven steady.enabled run.runs x.0 (got netlist.outputs place x.0 x.1) clock below
        ∙ (λ i. bits_of (wide i) (entry i))

  pub carries : StimulusGivesColumns → InputsHavePeriods diagram → AreNames diagram names → Carries m diagram plan timing
  carries columns periods are = record {
    names = names;
    are_names = are;
    header = has-header;
    sound = made.conditions;
    enabled = made.outputs.enable;
    thinned = λ window start inputs rows last runs. are-thinned value_by_layer m made.conditions.acyclic made.conditions.clocked (can-stall made) made.keeps window start inputs rows last runs;
    bits = λ samples window stimulus table rows run place e is t early hit.
        clocks-show made run e.name (width_of e.root.type) (table e.root.block 1 e.root.element t) _ _
        (output-shows columns periods (steady-run made run) place e is t early hit);
  }
