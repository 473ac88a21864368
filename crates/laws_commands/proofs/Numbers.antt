-- What is sampled of the module of a diagram is what the table that solves the diagram shows of its root outputs.
use Rattle.std.proofs.Common.{◌≡◌, ℕ, ◌+◌, ◌*◌, ◌%◌, ◌<◌, ◌==◌, ◌||◌, Bool, true, false, not, List, length, Option, None, Some, ℤ, pos, ⊎_elim, sym, ap, subst, ◌∙◌, arith}
use Rattle.std.specs.Prelude.{slice_get, unwrap_or}
use Rattle.std.proofs.lemmas.Bool.{cases_eq, ne_eqb}
use Rattle.std.proofs.lemmas.Nat.{mod_below}
use Rattle.std.proofs.lemmas.Option.{get_or_from_slice_get}
use Rattle.fx_type.specs.declared.kind.FxType.{FxType}
use Rattle.fx_type.specs.declared.kind.FxType.TheVariants.{Num, Logical}
use Rattle.fx_type.specs.FxType.{InRange, IsType, is_signed, width_of}
use Rattle.fx_tables.specs.declared.table.Rows.{Rows as Numbers}
use Rattle.fx_tables.specs.Stimulus.{FitsColumns}
use Rattle.dg_model.specs.declared.diagram.Block.{Block}
use Rattle.dg_model.specs.declared.diagram.Diagram.{Diagram}
use Rattle.dg_model.specs.declared.resolved.Resolved.{Resolved}
use Rattle.dg_model.specs.Attributes.{attributes_of}
use Rattle.dg_model.specs.Hits.{Hits, last_hit}
use Rattle.dg_model.specs.Laws.{ColumnsComeBack, ColumnsMakeStimulus, OutputsAreListed}
use Rattle.dg_model.specs.RootElements.{RootElement, column_of_stimulus, number_for, root_inputs, root_outputs}
use Rattle.dg_model.specs.Signals.{Attributes, Stimulus, Table}
use Rattle.dg_model.specs.Solves.{IsShown, IsStimulus, Solves}
use Rattle.dg_tables.specs.Laws.{IsOrdered, SolvedIsInRange, TypesAreValid}
use Rattle.dg_response.specs.Response.{input_columns, number_in, shown, stimulus_of}
use Rattle.math_list.proofs.Indices.{by-places}
use Rattle.dg_response.proofs.Single.{is-shown}
use Rattle.laws_commands.proofs.Ready.{Schedules, ready-in, some-step}
use Rattle.laws_commands.proofs.Stimuli.{rows-stimulate}
use Rattle.cmd_generate.proofs.Ports.{cycles-told, input-at, output-numbers, output-of, outputs-are, outputs-many, stalls}
use Rattle.math_list.proofs.Places.{there_map, there_within}
use Rattle.hw_arcs.specs.Latencies.{latency_at}
use Rattle.hw_module.specs.Carries.{Carries, IsDrivenRun}
use Rattle.hw_module.specs.Interface.{NamedElement, output_data, output_elements, step_of}
use Rattle.hw_sched.specs.Ready.{declared_latency}
use Rattle.hw_sched.specs.Scheduled.{IsScheduled}
use Rattle.hw_sched.specs.Slots.{Timing}
use Rattle.vl_ast.specs.declared.modules.Module.{Module}
use Rattle.vl_ast.specs.declared.modules.Port.{Port}
use Rattle.vl_ast.specs.Driven.{Driven, output_ports}
use Rattle.vl_ast.specs.Header.{output_port}
use Rattle.vl_ast.specs.Value.{bits_of, number_of}
use Rattle.vl_ast.specs.Windows.{Window, row_at}
use Rattle.vl_ast.proofs.FullCounts.{AllCount, place-clock}
use Rattle.vl_emit.proofs.Numbers.{number-is}
use Rattle.vl_replay.specs.Sampled.{Sampled, hit_at, numbers_of, window_of}
use Rattle.vl_replay.proofs.Times.{hit-below, last-is-hit}

-- the laws of diagrams and of schedules
pub record Laws : Type 0 where
  pub outputs : OutputsAreListed
  pub made : ColumnsMakeStimulus
  pub kept : ColumnsComeBack
  pub range : SolvedIsInRange
  pub types : TypesAreValid
  pub schedules : Schedules

-- bits of a number of a type show the number
number-of-type : (type : FxType) (bits : ℕ) (z : ℤ) → IsType type → InRange type z → bits ≡ bits_of (width_of type) z
    → number_of (record { width = width_of type; signed = is_signed type || width_of type == 128; bits = bits }) ≡ z
number-of-type (Num true width frac) bits z valid within is = number-is width true bits z valid.0 (record { low = within.low; high = within.high }) is
number-of-type (Num false width frac) bits z (word, frac-low, frac-high) within is =
    let few = word.1 in
    ap (λ (b : Bool). number_of (record { width = width; signed = b; bits = bits })) (ne_eqb width 128 (λ same. omega (arith, few, same)))
    ∙ number-is width false bits z word (record { low = within.low; high = within.high }) is
number-of-type Logical bits z valid within is = number-is 1 false bits z (omega arith, omega arith) (record { low = within.low; high = within.high }) is

three-times : (a b c n : ℕ) → (a + b + c) * n ≡ a * n + b * n + c * n
three-times a b c n = grind arith

module _ (laws : Laws) {core : Module} {diagram : Diagram} {plan : Resolved} {timing : Timing} (c : Carries core diagram plan timing) (scheduled : IsScheduled diagram plan timing)
    {order : List ℕ} (ordered : IsOrdered diagram order) (rows : Numbers) (many : rows.columns ≡ length (input_columns diagram)) (fits : FitsColumns (input_columns diagram) rows)
    (table : Table) (solves : Solves diagram (attributes_of diagram) (stimulus_of diagram rows) rows.lines table)
    (lines : ℕ → List ℤ) (s : Sampled core (numbers_of rows) rows.lines lines) where
  abbrev A : Attributes
  A = attributes_of diagram

  abbrev stimulus : Stimulus
  stimulus = stimulus_of diagram rows

  abbrev window : Window
  window = window_of s.count

  in-range : IsStimulus diagram A stimulus rows.lines
  in-range = rows-stimulate laws.made diagram ordered.checked.wired rows many fits

  -- every row behind that with `reset` counts
  all : AllCount core window s.inputs
  all j below =
      let on = s.driven.enabled (stalls c) (row_at window j) (omega arith) below in
      let stall = stalls c in
      (λ i. not (stall i) || on i == 1)

  driven : Driven core (column_of_stimulus (root_inputs diagram A) stimulus) rows.lines window s.inputs
  driven = record {
    reset = s.driven.driven.reset;
    shows = λ cycles cycles_is place port at period period_is t below hit clock k low high tick.
        let e = input-at c place port at in
        let back = laws.kept diagram A (number_in rows) place e.0.root t ordered.checked.wired e.3 in
        let there = ap (λ (o : Option RootElement). number_for stimulus o t) e.3 in
        s.driven.driven.shows cycles cycles_is place port at period period_is t below hit clock k low high tick
        ∙ ap (bits_of port.width) (sym (there ∙ back));
  }

  abbrev run : IsDrivenRun core diagram rows.lines window stimulus table s.rows
  run = record { start = λ name. 0; inputs = s.inputs; in_range = in-range; solves = solves; driven = driven; runs = s.runs }

  -- ---- a root output

  module _ (place : ℕ) (e : NamedElement) (at : slice_get (output_elements c.names diagram) place ≡ Some e) (there : slice_get (root_outputs diagram A) place ≡ Some e.root) where
    abbrev entry : ℕ → ℤ
    entry t = table e.root.block 1 e.root.element t

    abbrev block : (b : Block) × IsShown diagram A e.root.block b 1 e.root.element
    block = is-shown laws.outputs diagram ordered.checked.wired place e.root there

    abbrev port : Port
    port = output_port (output_data diagram plan timing e)

    abbrev step : ℕ
    step = step_of e.root

    type-is : e.root.type ≡ A.type_at e.root.block 1
    type-is = ap (λ (x : RootElement). x.type) ((laws.outputs diagram A ordered.checked.wired).elements_of place e.root there).4

    period-is : A.period_at e.root.block ≡ e.root.period
    period-is = sym (ap (λ (x : RootElement). x.period) ((laws.outputs diagram A ordered.checked.wired).elements_of place e.root there).4)

    valid : IsType e.root.type
    valid = subst IsType (sym type-is) (laws.types diagram order e.root.block block.0 ordered block.1.block_is).0

    in-type : (t : ℕ) → t < rows.lines → InRange e.root.type (entry t)
    in-type t below = subst (λ (x : FxType). InRange x (entry t)) (sym type-is)
        (laws.range diagram order stimulus rows.lines table ordered in-range solves e.root.block block.0 1
        e.root.element t block.1 below)

    -- between hits it has the entry of the last
    stays : (period : Option ℕ) → A.period_at e.root.block ≡ period → (t : ℕ) → t < rows.lines → entry (hit_at (unwrap_or period 1) t) ≡ entry t
    stays None still t below = let rest = mod_below t 1 (omega arith) in let same : hit_at 1 t ≡ t = omega (arith, rest) in ap entry same
    stays (Some period) is t below = ⊎_elim
        (λ hits. let same : hit_at period t ≡ t = omega (arith, hits) in ap entry same)
        (λ other. sym (solves.between_hits e.root.block block.0 1 e.root.element t block.1 below (λ hits. other (subst (λ o. Hits o t) is hits)) ∙ ap (λ o. entry (last_hit o t)) is))
        (cases_eq (t % period) 0)

    abbrev declared : ℕ
    declared = declared_latency diagram A plan timing e.root.block

    -- what is sampled of it is its entry
    shown-at : (t : ℕ) → t < rows.lines → slice_get (lines t) place ≡ Some (entry t)
    shown-at t below =
        let numbers = output-numbers c e (place, there_within (output_elements c.names diagram) place e at, get_or_from_slice_get (output_elements c.names diagram) place e e at) in
        let port-at : slice_get (output_ports core) place ≡ Some port =
        ap (λ (ports : List Port). slice_get ports place) (outputs-are c)
        ∙ there_map (λ e. output_port (output_data diagram plan timing e))
        (output_elements c.names diagram) place e at in
        let told = s.shows plan.cycles (cycles-told c) place port port-at step declared numbers.0 numbers.1 t below in
        let low = hit-below step t in
        let last = last-is-hit step t (some-step laws.schedules scheduled e.root.block e.root.period period-is) in
        let ready = ready-in laws.schedules scheduled e.root.block e.root.period period-is in
        let split = three-times (hit_at step t) (latency_at timing.lat e.root.block) step plan.cycles in
        let clock : ℕ = hit_at step t * plan.cycles + declared in
        let until : clock < (hit_at step t + latency_at timing.lat e.root.block + step) * plan.cycles = omega (arith, split, ready) in
        let bits = c.bits rows.lines window stimulus table s.rows run place e at (hit_at step t)
        (omega (arith, low, below)) last clock clock (omega arith) until
        (place-clock core window s.inputs all clock told.0) in
        told.1
        ∙ ap (λ (z : ℤ). Some z)
        (number-of-type e.root.type (s.rows (row_at window clock) e.name) (entry (hit_at step t)) valid (in-type (hit_at step t) (omega (arith, low, below))) bits
        ∙ stays e.root.period period-is t below)

  -- ---- the lines

  pub lines_are : (t : ℕ) → t < rows.lines → lines t ≡ shown diagram table t
  lines_are t below = by-places (λ (root : RootElement). table root.block 1 root.element t) (root_outputs diagram A) (lines t) (s.long t below ∙ outputs-many c) (λ place root there.
      let e = output-of c place root there in
      get_or_from_slice_get (lines t) place (table e.0.root.block 1 e.0.root.element t) (pos 0) (shown-at place e.0 e.1 (there ∙ ap (λ (r : RootElement). Some r) (sym e.2)) t below)
      ∙ ap (λ (r : RootElement). table r.block 1 r.element t) e.2)
