-- What the program's commands say of one another, for all texts (own).
use Rattle.std.specs.Prelude.{◌≡◌, ℕ, ◌≤◌, List, length}
use Rattle.dg_model.specs.declared.diagram.Diagram.{Diagram}
use Rattle.dg_model.specs.Attributes.{attributes_of}
use Rattle.dg_model.specs.Checked.{IsChecked}
use Rattle.dg_model.specs.Solves.{IsStimulus}
use Rattle.dg_tables.specs.Laws.{IsOrdered}
use Rattle.cmd_generate.specs.Generated.{IsVerilogOf}
use Rattle.cmd_replay.specs.Benched.{IsTold}
use Rattle.cmd_replay.specs.Replayed.{CanBeReplayed, IsBadStimulus, IsReplayOf}
use Rattle.cmd_sample.specs.Summary.{summary_text}
use Rattle.dg_response.specs.Response.{stimulus_of}
use Rattle.fx_tables.specs.declared.table.TableCause.{TableCause}
use Rattle.fx_top.specs.Call.{file_limit}
use Rattle.fx_top.specs.Simulated.{CanBeSimulated, IsBadSimulation, IsSimulationOf}
use Rattle.fx_top.specs.Summarized.{IsSummaryOf}
use Rattle.laws_samples.specs.Columns.{HasSampleColumns}
use Rattle.vl_ast.specs.declared.modules.Module.{Module}
use Rattle.vl_ast.specs.Grammar.{most_items}
use Rattle.vl_ast.specs.Spelling.{spelling}

-- ---- replays and simulations

-- what the text that is generated of a model by a plan shows in a replay is the response of the
-- model's diagram, number for number and byte for byte
abbrev pub ReplaysAreResponses : Type 0
ReplaysAreResponses =
    (model plan verilog stimulus told response : List ℕ) → IsVerilogOf model plan verilog
    → IsReplayOf verilog stimulus told → IsSimulationOf model stimulus response → told ≡ response

-- so it is a simulation of the model
abbrev pub ReplaysAreSimulations : Type 0
ReplaysAreSimulations =
    (model plan verilog stimulus told : List ℕ) → IsVerilogOf model plan verilog
    → IsReplayOf verilog stimulus told → IsSimulationOf model stimulus told

-- and a simulation of the model is a replay of the text, where the text isn't too long to be read
abbrev pub SimulationsAreReplays : Type 0
SimulationsAreReplays =
    (model plan verilog stimulus response : List ℕ) (generated : IsVerilogOf model plan verilog)
    → length generated.written.made.items ≤ most_items → IsSimulationOf model stimulus response
    → IsReplayOf verilog stimulus response

-- ---- their stimuli

-- a stimulus by which the text can be replayed is one of the model
abbrev pub ReplayedIsSimulated : Type 0
ReplayedIsSimulated =
    (model plan verilog stimulus : List ℕ) → IsVerilogOf model plan verilog
    → CanBeReplayed verilog stimulus → CanBeSimulated model stimulus

-- and the other way, where the text isn't too long to be read
abbrev pub SimulatedIsReplayed : Type 0
SimulatedIsReplayed =
    (model plan verilog stimulus : List ℕ) (generated : IsVerilogOf model plan verilog)
    → length generated.written.made.items ≤ most_items → CanBeSimulated model stimulus
    → CanBeReplayed verilog stimulus

-- the first bad line of a stimulus for the text is so for the model, with its cause
abbrev pub BadReplayedIsSimulated : Type 0
BadReplayedIsSimulated =
    (model plan verilog stimulus : List ℕ) (line : ℕ) (cause : TableCause)
    → IsVerilogOf model plan verilog → IsBadStimulus verilog stimulus line cause
    → IsBadSimulation model stimulus line cause

-- and the other way
abbrev pub BadSimulatedIsReplayed : Type 0
BadSimulatedIsReplayed =
    (model plan verilog stimulus : List ℕ) (line : ℕ) (cause : TableCause)
    (generated : IsVerilogOf model plan verilog)
    → length generated.written.made.items ≤ most_items
    → IsBadSimulation model stimulus line cause → IsBadStimulus verilog stimulus line cause

-- ---- texts that a file can hold

-- a module whose written text is no longer than a file may be isn't too long to be read
abbrev pub HeldModulesAreRead : Type 0
HeldModulesAreRead =
    (made : Module) → length (spelling made) ≤ file_limit → length made.items ≤ most_items

-- so a simulation of the model is a replay of such a text
abbrev pub SimulationsAreReplaysOfFiles : Type 0
SimulationsAreReplaysOfFiles =
    (model plan verilog stimulus response : List ℕ) → IsVerilogOf model plan verilog
    → length verilog ≤ file_limit → IsSimulationOf model stimulus response
    → IsReplayOf verilog stimulus response

-- a stimulus of the model is one by which such a text can be replayed
abbrev pub SimulatedIsReplayedOfFiles : Type 0
SimulatedIsReplayedOfFiles =
    (model plan verilog stimulus : List ℕ) → IsVerilogOf model plan verilog
    → length verilog ≤ file_limit → CanBeSimulated model stimulus → CanBeReplayed verilog stimulus

-- and the first bad line for the model is so for such a text, with its cause
abbrev pub BadSimulatedIsReplayedOfFiles : Type 0
BadSimulatedIsReplayedOfFiles =
    (model plan verilog stimulus : List ℕ) (line : ℕ) (cause : TableCause)
    → IsVerilogOf model plan verilog → length verilog ≤ file_limit
    → IsBadSimulation model stimulus line cause → IsBadStimulus verilog stimulus line cause

-- ---- samples

-- what the bench of `run` tells of the module of a sample, where that isn't too long to be read, is
-- the response that it is compared with
abbrev pub SamplesAgree : Type 0
SamplesAgree =
    (count : ℕ) (told text : List ℕ) (summary : IsSummaryOf IsTold count told text)
    → length summary.own.items ≤ most_items → told ≡ summary.response

-- where the module of a sample isn't too long to be read, and its diagram has these columns, the
-- summary ends in `equal 12 of 12`
abbrev pub SamplesAreEqual : Type 0
SamplesAreEqual =
    (count : ℕ) (told text : List ℕ) (summary : IsSummaryOf IsTold count told text)
    → length summary.own.items ≤ most_items → HasSampleColumns summary.diagram
    → text ≡ summary_text count summary.made 12

-- ---- tables

-- the blocks of a diagram that keeps the rules have an order along the instant edges
abbrev pub DiagramsAreOrdered : Type 0
DiagramsAreOrdered =
    (diagram : Diagram) → IsChecked diagram → (order : List ℕ) × IsOrdered diagram order

-- the rows of a simulation give each root input a number in range at each of its hits
abbrev pub SimulationsAreStimulated : Type 0
SimulationsAreStimulated =
    (model stimulus text : List ℕ) (simulation : IsSimulationOf model stimulus text)
    → IsStimulus simulation.diagram (attributes_of simulation.diagram)
    (stimulus_of simulation.diagram simulation.rows) simulation.rows.lines
