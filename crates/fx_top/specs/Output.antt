-- The text that a command writes (own).
use Rattle.std.specs.Prelude.{◌≡◌, ℕ, List, []}
use Rattle.fx_io.specs.Shelf.{Told, Fetched}
use Rattle.cmd_design.specs.Design.{IsBadPlan}
use Rattle.fx_top.specs.CheckedText.{IsCheckOf}
use Rattle.fx_top.specs.Command.{Command, PlanWord, EmptyPlan, Named, Generate, Replay, Simulate, Explore, Check, Stream}
use Rattle.fx_top.specs.Explored.{IsExplorationOf}
use Rattle.fx_tables.specs.declared.table.TableCause.{TableCause}
use Rattle.cmd_generate.specs.Generated.{IsVerilogOf}
use Rattle.cmd_replay.specs.Replayed.{IsReplayOf, IsBadStimulus}
use Rattle.fx_top.specs.Simulated.{IsSimulationOf, IsBadSimulation}
use Rattle.cmd_generate.specs.Streamed.{IsStreamedOf}
use Rattle.fx_top.specs.Call.{file_limit}

-- the text of a plan, or of the second file: no bytes of the empty plan, and else those that were
-- fetched
abbrev pub IsPlanText : (List ℕ → Told) → PlanWord → List ℕ → Type 0
IsPlanText held EmptyPlan text = text ≡ []
IsPlanText held (Named file) text = Fetched (held file) file_limit text

-- the text is made so of what was fetched of a command's two files
pub record IsOfFiles (IsMade : List ℕ → List ℕ → List ℕ → Type 0) (held : List ℕ → Told)
    (first : List ℕ) (second : PlanWord) (text : List ℕ) : Type 0 where
  pub first_bytes : List ℕ
  pub second_bytes : List ℕ
  pub fetched : Fetched (held first) file_limit first_bytes
  pub says : IsPlanText held second second_bytes
  pub made : IsMade first_bytes second_bytes text

-- the first bad line of the table of a command: of a stimulus by the columns that it has of its
-- first file's bytes, of a plan where that file's model keeps its rules
abbrev pub IsBadTable : Command → List ℕ → List ℕ → ℕ → TableCause → Type 0
IsBadTable (Generate model plan) first table line cause = IsBadPlan first table line cause
IsBadTable (Replay verilog text) first table line cause = IsBadStimulus first table line cause
IsBadTable (Simulate model text) first table line cause = IsBadSimulation first table line cause
IsBadTable (Explore model range) first table line cause = ⊥
IsBadTable (Check model plan) first table line cause = IsBadPlan first table line cause
IsBadTable (Stream model plan) first table line cause = IsBadPlan first table line cause

-- the text that a command writes of what was fetched from the shelf
abbrev pub IsOutput : Command → (List ℕ → Told) → List ℕ → Type 0
IsOutput (Generate model plan) held text = IsOfFiles IsVerilogOf held model plan text
IsOutput (Replay verilog stimulus) held text =
    IsOfFiles IsReplayOf held verilog (Named stimulus) text
IsOutput (Simulate model stimulus) held text =
    IsOfFiles IsSimulationOf held model (Named stimulus) text
IsOutput (Explore model range) held text =
    (bytes : List ℕ) × (Fetched (held model) file_limit bytes × IsExplorationOf bytes range text)
IsOutput (Check model plan) held text = IsOfFiles IsCheckOf held model plan text
IsOutput (Stream model plan) held text = IsOfFiles IsStreamedOf held model plan text
