-- A response that a Verilog text may have.
use Rattle.std.specs.Prelude.{ℕ, List, Option, None, Some}
use Rattle.cmd_replay.specs.Replayed.{CanBeReplayed, IsReplayOf}

-- this one, or none where it can't be replayed by the stimulus
abbrev pub IsReplayedAs : List ℕ → List ℕ → Option (List ℕ) → Type 0
IsReplayedAs verilog stimulus None = CanBeReplayed verilog stimulus → ⊥
IsReplayedAs verilog stimulus (Some text) = IsReplayOf verilog stimulus text
