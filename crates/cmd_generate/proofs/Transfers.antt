-- What the transfers out of a module with valid and ready show of a diagram.
use Rattle.std.proofs.Common.{◌≡◌, ℕ, ◌+◌, ◌-◌, ◌*◌, ◌/◌, ◌%◌, ◌<◌, ◌≤◌, ◌==◌, true, not, ◌||◌, List, length, drop, Contains, codes, Option, Some, sym, ap, subst, ◌∙◌, arith}
use Rattle.std.specs.Prelude.{slice_get, unwrap_or}
use Rattle.std.proofs.lemmas.Nat.{div-mul-add, mod_below}
use Rattle.dg_model.specs.declared.diagram.Diagram.{Diagram}
use Rattle.dg_model.specs.declared.resolved.Resolved.{Resolved}
use Rattle.dg_model.specs.Attributes.{attributes_of}
use Rattle.dg_model.specs.RootElements.{RootElement, column_of_stimulus, number_for, root_inputs, root_outputs}
use Rattle.dg_model.specs.Signals.{Attributes, Stimulus, Table}
use Rattle.dg_model.specs.Solves.{Solves}
use Rattle.fx_type.specs.FxType.{width_of}
use Rattle.vl_ast.proofs.FullCounts.{counted-all}
use Rattle.st_wrap.proofs.ColumnPorts.{got-in}
use Rattle.math_list.proofs.Places.{get_some, there_within, there_map}
use Rattle.cmd_generate.proofs.Places.{element, found-at, named-at, to-named, zip-at}
use Rattle.cmd_generate.proofs.Ports.{stalls, outputs-are, in-name, out-name, cycles-are, output-numbers, wanted-size, inputs-many, outputs-many, output-of, input-at}
use Rattle.hw_arcs.specs.Latencies.{latency_at}
use Rattle.hw_module.specs.Carries.{Carries, IsDrivenRun}
use Rattle.hw_module.specs.Interface.{NamedElement, input_data, input_elements, output_data, output_elements, step_of}
use Rattle.hw_names.specs.Names.{wanted_names}
use Rattle.hw_sched.specs.Ready.{declared_latency, ready_of}
use Rattle.hw_sched.specs.Slots.{Timing}
use Rattle.st_wrap.specs.Carried.{CarriesTransfers, FollowsCore, IsCarried, IsFollowed, shown_at, taken_by}
use Rattle.st_wrap.specs.Header.{named_outputs}
use Rattle.st_wrap.specs.Pace.{samples_late}
use Rattle.st_wrap.specs.Transfers.{IsTransfer, in_side, out_side, transfers}
use Rattle.cmd_generate.specs.Streamed.{Answers, IsTaken}
use Rattle.vl_ast.specs.declared.modules.Module.{Module}
use Rattle.vl_ast.specs.declared.modules.Port.{Port}
use Rattle.vl_ast.specs.Attributes.{clocks_of, lateness_of, period_of, value_between}
use Rattle.vl_ast.specs.Driven.{Driven, output_ports, stimulus_ports}
use Rattle.vl_ast.specs.Header.{attribute_of, input_port, output_port}
use Rattle.vl_ast.specs.Runs.{Rows}
use Rattle.vl_ast.specs.Value.{bits_of}
use Rattle.vl_ast.specs.Windows.{Each, IsClock, Window, counts_at, row_at}

-- ---- what the core shows

module _ {core : Module} {diagram : Diagram} {plan : Resolved} {timing : Timing} (c : Carries core diagram plan timing) where
  abbrev A : Attributes
  A = attributes_of diagram

  abbrev ins : List NamedElement
  ins = input_elements c.names diagram

  abbrev outs : List NamedElement
  outs = output_elements c.names diagram

  abbrev in_port : NamedElement → Port
  in_port e = input_port (input_data e)

  abbrev out_port : NamedElement → Port
  out_port e = output_port (output_data diagram plan timing e)

  abbrev declared : NamedElement → ℕ
  declared e = declared_latency diagram A plan timing e.root.block

  -- ---- every port has a number in every sample, and no output is later within a sample than its clocks

  module _ (in_steady : (e : RootElement) → Contains (root_inputs diagram A) e → e.period ≡ Some 1) (out_steady : (e : RootElement) → Contains (root_outputs diagram A) e → e.period ≡ Some 1)
      (ready : (e : RootElement) → Contains (root_outputs diagram A) e → ready_of diagram A plan timing e.block < plan.cycles)
      (names : List (List ℕ)) (many : length names ≡ length (wanted_names diagram)) where
    late-is : (e : NamedElement) → Contains outs e → samples_late (clocks_of core) (out_port e) ≡ latency_at timing.lat e.root.block
    late-is e h =
        let l : lateness_of (out_port e) ≡ declared e = ap (λ (o : Option ℕ). unwrap_or o 0) (output-numbers c e h).1 in
        (λ i. l i / cycles-are c i)
        ∙ div-mul-add (latency_at timing.lat e.root.block) plan.cycles (ready_of diagram A plan timing e.root.block) (ready e.root (out-name c e h).1)

    in-period : (e : NamedElement) → Contains ins e → period_of (in_port e) ≡ Some 1
    in-period e h = ap (λ (o : Option ℕ). value_between 1 4096 (Some (attribute_of (codes "fx_period") (unwrap_or o 1)))) (in_steady e.root (in-name c e h).1)

    out-step : (e : NamedElement) → Contains outs e → step_of e.root ≡ 1
    out-step e h = ap (λ (o : Option ℕ). unwrap_or o 1) (out_steady e.root (out-name c e h).1)

    -- get_some is a name for each column
    pub columns-many : length names ≡ length (stimulus_ports core) + length (output_ports core)
    columns-many =
        let size = wanted-size c in
        let ins-many = inputs-many c in
        let outs-many = outputs-many c in
        omega (arith, size, many, ins-many, outs-many)

    module _ (window : Window) (rows : Rows) (f : IsFollowed core names window rows) where
      -- the place of a row behind the reset is its clock
      ticks : (place : ℕ) → row_at f.core_window place < f.core_window.rows → IsClock core f.core_window f.core_inputs place place
      ticks place below = record {
        within = below;
        counts = counts place below;
        number = counted-all (counts_at core f.core_window f.core_inputs) place (λ j less. counts j (omega (arith, less, below)));
      }
        where
          counts : (place : ℕ) → row_at f.core_window place < f.core_window.rows → counts_at core f.core_window f.core_inputs place ≡ true
          counts place below = let on = f.steady.enabled place below in let s = stalls c in (λ i. not (s i) || on i == 1)

      clock-is : (clock place : ℕ) → IsClock core f.core_window f.core_inputs clock place → place ≡ clock
      clock-is clock place is = sym (ticks place is.within).number ∙ is.number

      module _ (number place : ℕ) (is : IsTransfer out_side window rows number place) (stimulus : Stimulus) (table : Table)
          (taken : IsTaken diagram names window rows (taken_by window rows place) stimulus) (solves : Solves diagram A stimulus (taken_by window rows place) table) where
        -- a transfer in up to this one
        in-at : (t : ℕ) → t < taken_by window rows place → (q : ℕ) × IsTransfer in_side window rows t q
        in-at t less =
            let r = found-at (transfers in_side window rows) (place + 1) t less in
            let low = r.1 in
            let inside = is.within in
            (r.0, record { within = omega (arith, low, inside); hands_over = r.2; earlier = r.3 })

        driven : Driven core (column_of_stimulus (root_inputs diagram A) stimulus) (taken_by window rows place) f.core_window f.core_inputs
        driven = record {
          reset = f.steady.reset;
          shows = λ cycles cycles_is index port at period period_is t less hit clock p low high tick.
              let e = input-at c index port at in
              let root = e.3 in
              let one : period ≡ 1 = (let s : Some period ≡ Some 1 = sym period_is ∙ ap period_of (sym e.2) ∙ in-period e.0 (got-in ins index e.0 e.1) in cc s) in
              let clocks : clocks_of core ≡ cycles = ap (λ (o : Option ℕ). unwrap_or o 1) cycles_is in
              let enough : index < length names = (let x = there_within (root_inputs diagram A) index e.0.root root in let y = wanted-size c in omega (arith, x, y, many)) in
              let n = get_some names index enough in
              let q = in-at t less in
              let here = clock-is clock p tick in
              let inside : row_at f.core_window clock < f.core_window.rows = subst (λ k. row_at f.core_window k < f.core_window.rows) here tick.within in
              let from : t * clocks_of core ≤ clock = subst (λ k. t * k ≤ clock) (sym clocks) low in
              let until : clock < (t + 1) * clocks_of core = subst (λ k. clock < (t + 1) * k) (sym clocks) (subst (λ k. clock < (t + k) * cycles) one high) in
              ap (λ k. f.core_inputs (row_at f.core_window k) port.name) here
              ∙ f.fed.at t q.0 clock q.1 from until inside index (port, n.0) (zip-at (stimulus_ports core) names index port n.0 at n.1)
              ∙ taken.at t q.0 less q.1 index (element n.0 e.0.root) (to-named names (root_inputs diagram A) index n.0 e.0.root n.1 root)
              ∙ sym (ap (λ (o : Option RootElement). bits_of (width_of e.0.root.type) (number_for stimulus o t)) root)
              ∙ ap (λ (x : Port). bits_of x.width (column_of_stimulus (root_inputs diagram A) stimulus index t)) e.2;
        }

        -- the clock at which an output shows the sample
        shows-at : (e : NamedElement) (index : ℕ) → slice_get outs index ≡ Some e
            → f.core_rows (row_at f.core_window (shown_at core number (out_port e))) e.name
            ≡ bits_of (width_of e.root.type) (table e.root.block 1 e.root.element number)
        shows-at e index at =
            let h = got-in outs index e at in
            let lat : ℕ = latency_at timing.lat e.root.block in
            let n : ℕ = shown_at core number (out_port e) in
            let late = late-is e h in
            let cycles = cycles-are c in
            let some : number < taken_by window rows place = (let t = f.taken number place is in omega (arith, t)) in
            let less = ready e.root (out-name c e h).1 in
            let n-is : n ≡ (number + lat + 1) * plan.cycles - 1 = (λ i. (number + late i + 1) * cycles i - 1) in
            let split : (number + lat + 1) * plan.cycles ≡ number * plan.cycles + lat * plan.cycles + plan.cycles = omega arith in
            let step = out-step e h in
            let hit : number % step_of e.root ≡ 0 = ap (λ s. number % s) step ∙ (let r = mod_below number 1 (omega arith) in omega (arith, r)) in
            let inside : row_at f.core_window n < f.core_window.rows =
            f.reached number place is index (out_port e)
            (ap (λ (ports : List Port). slice_get ports index) (outputs-are c)
            ∙ there_map out_port outs index e at) in
            let from : number * plan.cycles + declared e ≤ n = omega (arith, n-is, split, less) in
            let until : n < (number + lat + step_of e.root) * plan.cycles = subst (λ s. n < (number + lat + s) * plan.cycles) (sym step) (omega (arith, n-is, split, less)) in
            c.bits (taken_by window rows place) f.core_window stimulus table f.core_rows run index e at number some hit n n from until (ticks n inside)
          where
            run : IsDrivenRun core diagram (taken_by window rows place) f.core_window stimulus table f.core_rows
            run = record { start = f.core_start; inputs = f.core_inputs; in_range = taken.in_range; solves = solves; driven = driven; runs = f.steady.runs }

        pub shown : (m : Module) → IsCarried core names window rows f.core_window f.core_rows
            → Each (output_elements names diagram) (λ index e. rows (row_at window place) e.name ≡ bits_of (width_of e.root.type) (table e.root.block 1 e.root.element number))
        shown m carried = λ index e at.
            let own = named-at (drop (length (root_inputs diagram A)) names) (root_outputs diagram A) index e at in
            let o = output-of c index e.root own.1 in
            let port : slice_get (output_ports core) index ≡ Some (out_port o.0) = ap (λ (ports : List Port). slice_get ports index) (outputs-are c) ∙ there_map out_port outs index o.0 o.1 in
            let pair : slice_get (named_outputs core names) index ≡ Some (out_port o.0, e.name) =
            zip-at (output_ports core) (drop (length (stimulus_ports core)) names) index (out_port o.0) e.name port (ap (λ k. slice_get (drop k names) index) (inputs-many c) ∙ own.0) in
            carried.at number place is index (out_port o.0, e.name) pair (f.reached number place is index (out_port o.0) port)
            ∙ shows-at o.0 index o.1
            ∙ ap (λ (r : RootElement). bits_of (width_of r.type) (table r.block 1 r.element number)) o.2

    -- what the transfers out show
    pub answers : (m : Module) → CarriesTransfers core names m → FollowsCore core names m → Answers m diagram names
    answers m carries follows = λ window start inputs rows last runs number place is.
        let f = follows.in_runs window start inputs rows last runs in
        record {
          taken = (let t = f.taken number place is in omega (arith, t));
          shown = λ stimulus table taken solves. shown window rows f number place is stimulus table taken solves m
              (carries.in_runs window start inputs rows last runs f.core_window f.core_start f.core_inputs f.core_rows f.steady f.fed);
        }
