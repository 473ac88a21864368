-- What the bench of `run` tells of a Verilog text and a stimulus (own).
use Rattle.std.specs.Prelude.{◌≡◌, ◌⊎◌, ℕ, List, []}
use Rattle.cmd_replay.specs.declared.bench.TrueBench.{TrueBench}
use Rattle.cmd_replay.specs.Replayed.{CanBeReplayed, IsReplayOf}

-- the bytes that it tells
abbrev pub told_by : TrueBench → List ℕ
told_by bench = bench.told

-- it tells the response of the module that the text spells, and no bytes where it spells none that
-- can be replayed by the stimulus
abbrev pub IsTold : List ℕ → List ℕ → List ℕ → Type 0
IsTold verilog stimulus told =
    IsReplayOf verilog stimulus told ⊎ ((CanBeReplayed verilog stimulus → ⊥) × (told ≡ []))
