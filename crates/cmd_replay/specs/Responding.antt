-- A response that is ready to be written, and what each fault says of the texts (own).
use Rattle.std.specs.Prelude.{◌≡◌, ⊤, ℕ, ℤ, List, length}
use Rattle.cmd_replay.specs.declared.response.ReplayFault.{ReplayFault}
use Rattle.cmd_replay.specs.declared.response.ReplayFault.TheVariants.{NotVerilog, Broken, BadTable, OutOfMemory}
use Rattle.cmd_replay.specs.declared.response.Response.{Response}
use Rattle.cmd_replay.specs.Replayed.{IsBadStimulus, IsBroken, IsNotVerilog, IsReplayOf}
use Rattle.fx_tables.specs.Response.{response}
use Rattle.fx_tables.specs.RowText.{periods_of}
use Rattle.vl_ast.specs.Driven.{output_ports}
use Rattle.vl_ast.specs.Windows.{Sample}
use Rattle.vl_replay.specs.Replays.{StandsBefore, module_of, stimulus_of}
use Rattle.vl_replay.specs.Sampled.{Sampled, numbers_of}
use Rattle.vl_replay.specs.declared.replay.Replay.{Replay}

-- what a fault says of the bytes of a Verilog text and of a stimulus
abbrev pub IsRefusedReplay : List ℕ → List ℕ → ReplayFault → Type 0
IsRefusedReplay verilog stimulus (NotVerilog line) = IsNotVerilog verilog line
IsRefusedReplay verilog stimulus (Broken fault) = IsBroken verilog fault
IsRefusedReplay verilog stimulus (BadTable line cause) = IsBadStimulus verilog stimulus line cause
IsRefusedReplay verilog stimulus OutOfMemory = ⊤

-- the table is what is sampled of the module of a replay
abbrev pub IsTableOf : Replay → (Sample → List ℤ) → Type 0
IsTableOf replay table =
    Sampled (module_of replay) (numbers_of (stimulus_of replay)) (stimulus_of replay).lines table

-- it stands before its first sample, and its lines are the response of the text to the stimulus
pub record IsResponseTo (verilog stimulus : List ℕ) (ready : Response) : Type 0 where
  pub stands : StandsBefore ready.replay 0
  pub samples : ready.samples ≡ (stimulus_of ready.replay).lines
  pub wide : length (output_ports (module_of ready.replay)) ≡ length (periods_of ready.text)
  pub table : Sample → List ℤ
  pub sampled : IsTableOf ready.replay table
  pub replay : IsReplayOf verilog stimulus (response (periods_of ready.text) table ready.samples)
