-- The text that is generated of a model shows in a replay what its diagram shows in a simulation.
use Rattle.std.proofs.Common.{◌≡◌, ◌<◌, ◌≤◌, ◌+◌, ◌*◌, ℕ, ℤ, List, length, map, pos, refl, sym, ap, subst, ◌∙◌}
use Rattle.std.specs.Prelude.{slice_index_or}
use Rattle.fx_tables.specs.declared.table.Column.{Column}
use Rattle.fx_tables.specs.declared.table.Rows.{Rows}
use Rattle.fx_tables.specs.Response.{response}
use Rattle.fx_tables.specs.Stimulus.{FitsColumns, IsRows, stimulus_fault}
use Rattle.dg_model.specs.declared.diagram.Diagram.{Diagram}
use Rattle.dg_model.specs.Attributes.{attributes_of}
use Rattle.dg_model.specs.Checked.{IsChecked}
use Rattle.dg_model.specs.Solves.{Solves}
use Rattle.dg_response.specs.Laws.{SomeResponse}
use Rattle.dg_response.specs.Response.{input_columns, output_columns, shown, stimulus_of}
use Rattle.dg_tables.specs.Laws.{IsOrdered}
use Rattle.cmd_model.specs.Model.{IsAccepted}
use Rattle.cmd_model.specs.Verdict.{Verdict}
use Rattle.laws_commands.specs.Laws.{BadReplayedIsSimulated, BadSimulatedIsReplayed, ReplayedIsSimulated, ReplaysAreResponses, ReplaysAreSimulations, SimulatedIsReplayed, SimulationsAreReplays}
use Rattle.laws_commands.specs.inner.LawsBelow.{AreKnown}
use Rattle.laws_commands.proofs.Columns.{columns-are, outputs-count, periods-are}
use Rattle.laws_commands.proofs.Numbers.{Laws, lines_are}
use Rattle.laws_commands.proofs.Orders.{some-order}
use Rattle.laws_commands.proofs.Schedules.{scheduled-of}
use Rattle.laws_commands.proofs.Texts.{rows-fit, same-response}
use Rattle.cmd_generate.specs.Generated.{IsVerilogOf}
use Rattle.cmd_replay.specs.Replayed.{AreRowsFor, CanBeReplayed, IsReplayOf, IsSoundText, fault_for}
use Rattle.cmd_simulate.specs.Simulating.{fault_in, output_periods}
use Rattle.fx_top.specs.Simulated.{CanBeSimulated, IsSimulationOf}
use Rattle.vl_ast.specs.declared.modules.Module.{Module}
use Rattle.vl_ast.specs.Attributes.{step_of}
use Rattle.vl_ast.specs.Driven.{output_ports, stimulus_ports}
use Rattle.vl_ast.specs.Grammar.{most_items}
use Rattle.vl_replay.specs.Columns.{columns_of}
use Rattle.vl_replay.specs.Sampled.{HasTable, Sampled, numbers_of}

-- the numbers of a list of cells, by place and sample
abbrev numbers-in : List ℤ → ℕ → ℕ → ℕ → ℤ
numbers-in cells columns place t = slice_index_or cells (t * columns + place) (pos 0)

module _ (known : AreKnown) {model plan verilog : List ℕ} (generated : IsVerilogOf model plan verilog) where
  abbrev made : Module
  made = generated.written.made

  abbrev diagram : Diagram
  diagram = generated.diagram

  numbers : Laws
  numbers = record {
    outputs = known.outputs;
    made = known.made;
    kept = known.kept;
    range = known.range;
    types = known.types;
    schedules = record { above = known.above; joins = known.joins; unfed = known.unfed; fits = known.fits };
  }

  checked : IsChecked diagram
  checked = generated.design.accepted.checked

  order : (order : List ℕ) × IsOrdered diagram order
  order = some-order diagram checked

  same-module : (other : Module) → IsSoundText verilog other → other ≡ made
  same-module other sound = generated.written.alone.alone other sound.spells

  -- ---- its columns

  columns : columns_of (stimulus_ports made) ≡ input_columns diagram
  columns = columns-are generated.written.so.carries known.inputs checked.wired (λ block b there. (known.types diagram order.0 block b order.1 there).0)

  outputs : length (output_ports made) ≡ length (output_columns diagram)
  outputs = outputs-count generated.written.so.carries

  same-fault : (stimulus : List ℕ) → fault_for made stimulus ≡ fault_in diagram stimulus
  same-fault stimulus = (λ i. stimulus_fault (columns i) (outputs i) stimulus)

  -- its rows are those of the diagram
  to-diagram : (stimulus : List ℕ) (rows : Rows) → AreRowsFor made stimulus rows → IsRows (input_columns diagram) (length (output_columns diagram)) stimulus rows
  to-diagram stimulus rows are =
      subst (λ (cs : List Column). IsRows cs (length (output_columns diagram)) stimulus rows) columns
      (subst (λ n. IsRows (columns_of (stimulus_ports made)) n stimulus rows) outputs are)

  to-module : (stimulus : List ℕ) (rows : Rows) → IsRows (input_columns diagram) (length (output_columns diagram)) stimulus rows → AreRowsFor made stimulus rows
  to-module stimulus rows are =
      subst (λ n. IsRows (columns_of (stimulus_ports made)) n stimulus rows) (sym outputs)
      (subst (λ (cs : List Column). IsRows cs (length (output_columns diagram)) stimulus rows) (sym columns) are)

  module _ {stimulus told : List ℕ} (replay : IsReplayOf verilog stimulus told) where
    replayed-rows : IsRows (input_columns diagram) (length (output_columns diagram)) stimulus replay.rows
    replayed-rows = to-diagram stimulus replay.rows (subst (λ (m : Module). AreRowsFor m stimulus replay.rows) (same-module replay.made replay.spelled) replay.rows_are)

  module _ {stimulus answer : List ℕ} (simulation : IsSimulationOf model stimulus answer) where
    same-diagram : simulation.diagram ≡ diagram
    same-diagram = known.diagram model simulation.diagram diagram simulation.accepted generated.design.accepted

    simulated-rows : IsRows (input_columns diagram) (length (output_columns diagram)) stimulus simulation.rows
    simulated-rows = subst (λ (d : Diagram). IsRows (input_columns d) (length (output_columns d)) stimulus simulation.rows) same-diagram simulation.rows_are

  -- ---- a replay and a simulation

  module _ {stimulus told answer : List ℕ} (replay : IsReplayOf verilog stimulus told) (simulation : IsSimulationOf model stimulus answer) where
    same-lines : replay.rows.lines ≡ simulation.rows.lines
    same-lines = (replayed-rows replay).line_count ∙ sym (simulated-rows simulation).line_count

    same-columns : replay.rows.columns ≡ simulation.rows.columns
    same-columns = (replayed-rows replay).column_count ∙ sym (simulated-rows simulation).column_count

    same-cells : replay.rows.cells ≡ simulation.rows.cells
    same-cells = (replayed-rows replay).numbers ∙ sym (simulated-rows simulation).numbers

    sampled : Sampled made (numbers_of simulation.rows) simulation.rows.lines replay.table
    sampled =
        subst (λ (m : Module). Sampled m (numbers_of simulation.rows) simulation.rows.lines replay.table) (same-module replay.made replay.spelled)
        (subst (λ n. Sampled replay.made (numbers_of simulation.rows) n replay.table) same-lines
        (subst (λ n. Sampled replay.made (numbers-in simulation.rows.cells n) replay.rows.lines replay.table) same-columns
        (subst (λ (cells : List ℤ). Sampled replay.made (numbers-in cells replay.rows.columns) replay.rows.lines replay.table) same-cells replay.sampled)))

    solves : Solves diagram (attributes_of diagram) (stimulus_of diagram simulation.rows) simulation.rows.lines simulation.shown.table
    solves = subst (λ (d : Diagram). Solves d (attributes_of d) (stimulus_of d simulation.rows) simulation.rows.lines simulation.shown.table) (same-diagram simulation) simulation.shown.solves

    fits : FitsColumns (input_columns diagram) simulation.rows
    fits = rows-fit (input_columns diagram) (length (output_columns diagram)) stimulus simulation.rows (simulated-rows simulation)

    same-numbers : (t : ℕ) → t < simulation.rows.lines → replay.table t ≡ simulation.lines t
    same-numbers t below =
        lines_are numbers generated.written.so.carries (scheduled-of generated.design) order.1 simulation.rows
        (simulated-rows simulation).column_count fits simulation.shown.table solves replay.table sampled t below
        ∙ ap (λ (d : Diagram). shown d simulation.shown.table t) (sym (same-diagram simulation))
        ∙ sym (simulation.shown.lines_are t below)

    pub same-text : told ≡ answer
    same-text =
        replay.text_is
        ∙ (λ i. response (map step_of (output_ports (same-module replay.made replay.spelled i))) replay.table (same-lines i))
        ∙ ap (λ (periods : List ℕ). response periods replay.table simulation.rows.lines) (periods-are generated.written.so.carries)
        ∙ same-response (output_periods diagram) replay.table simulation.lines simulation.rows.lines same-numbers
        ∙ ap (λ (d : Diagram). response (output_periods d) simulation.lines simulation.rows.lines) (sym (same-diagram simulation))
        ∙ sym simulation.text_is

  -- each is one of the other
  pub replay-simulates : {stimulus told : List ℕ} → IsReplayOf verilog stimulus told → IsSimulationOf model stimulus told
  replay-simulates {stimulus} {told} replay =
      let rows = replayed-rows replay in
      let some : SomeResponse diagram replay.rows =
      known.responds diagram order.0 replay.rows order.1 rows.column_count
      (rows-fit (input_columns diagram) (length (output_columns diagram)) stimulus replay.rows rows) in
      let simulation : IsSimulationOf model stimulus (response (output_periods diagram) some.lines replay.rows.lines) = record {
        diagram = diagram;
        accepted = generated.design.accepted;
        rows = replay.rows;
        rows_are = rows;
        lines = some.lines;
        shown = some.shown;
        text_is = refl;
      } in
      subst (λ (text : List ℕ). IsSimulationOf model stimulus text) (sym (same-text replay simulation)) simulation

  module _ (few : length made.items ≤ most_items) where
    sound : IsSoundText verilog made
    sound = record { spells = generated.written.alone.spells; few = few; sound = generated.written.so.carries.sound }

    pub simulation-replays : {stimulus answer : List ℕ} → IsSimulationOf model stimulus answer → IsReplayOf verilog stimulus answer
    simulation-replays {stimulus} {answer} simulation =
        let some : HasTable made (numbers_of simulation.rows) simulation.rows.lines = known.sampled made (numbers_of simulation.rows) simulation.rows.lines generated.written.so.carries.sound in
        let replay : IsReplayOf verilog stimulus (response (map step_of (output_ports made)) some.table simulation.rows.lines) = record {
          made = made;
          spelled = sound;
          rows = simulation.rows;
          rows_are = to-module stimulus simulation.rows (simulated-rows simulation);
          table = some.table;
          sampled = some.sampled;
          text_is = refl;
        } in
        subst (λ (text : List ℕ). IsReplayOf verilog stimulus text) (same-text replay simulation) replay

    pub simulated-replays : (stimulus : List ℕ) → CanBeSimulated model stimulus → CanBeReplayed verilog stimulus
    simulated-replays stimulus can = record { made = made; spelled = sound; good = same-fault stimulus ∙ can.good diagram generated.design.accepted }

  -- ---- their stimuli

  pub is-accepted : IsAccepted model
  is-accepted = record {
    tree = generated.design.accepted.tree;
    stands = generated.design.accepted.stands;
    kept = λ fault paths broken. (let one = known.verdict model (Verdict.Accepted diagram) (Verdict.Broken fault paths) generated.design.accepted broken in cc one);
  }

  pub replayed-simulates : (stimulus : List ℕ) → CanBeReplayed verilog stimulus → CanBeSimulated model stimulus
  replayed-simulates stimulus can = record {
    accepted = is-accepted;
    good = λ other accepted.
        ap (λ (d : Diagram). fault_in d stimulus) (known.diagram model other diagram accepted generated.design.accepted)
        ∙ sym (same-fault stimulus)
        ∙ ap (λ (m : Module). fault_for m stimulus) (sym (same-module can.made can.spelled))
        ∙ can.good;
  }

pub replays-are-responses : AreKnown → ReplaysAreResponses
replays-are-responses known model plan verilog stimulus told answer generated replay simulation = same-text known generated replay simulation

pub replays-are-simulations : AreKnown → ReplaysAreSimulations
replays-are-simulations known model plan verilog stimulus told generated replay = replay-simulates known generated replay

pub simulations-are-replays : AreKnown → SimulationsAreReplays
simulations-are-replays known model plan verilog stimulus answer generated few simulation = simulation-replays known generated few simulation

pub replayed-is-simulated : AreKnown → ReplayedIsSimulated
replayed-is-simulated known model plan verilog stimulus generated can = replayed-simulates known generated stimulus can

pub simulated-is-replayed : AreKnown → SimulatedIsReplayed
simulated-is-replayed known model plan verilog stimulus generated few can = simulated-replays known generated few stimulus can

pub bad-replayed-is-simulated : AreKnown → BadReplayedIsSimulated
bad-replayed-is-simulated known model plan verilog stimulus line cause generated bad = record {
  diagram = generated.diagram;
  accepted = generated.design.accepted;
  bad = sym (same-fault known generated stimulus) ∙ ap (λ (m : Module). fault_for m stimulus) (sym (same-module known generated bad.made bad.spelled)) ∙ bad.bad;
}

pub bad-simulated-is-replayed : AreKnown → BadSimulatedIsReplayed
bad-simulated-is-replayed known model plan verilog stimulus line cause generated few bad = record {
  made = generated.written.made;
  spelled = sound known generated few;
  bad = same-fault known generated stimulus ∙ ap (λ (d : Diagram). fault_in d stimulus) (known.diagram model generated.diagram bad.diagram generated.design.accepted bad.accepted) ∙ bad.bad;
}
