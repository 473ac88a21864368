-- The index of the Counters of a netlist.
use Rattle.std.specs.Prelude.{◌≡◌, ℕ, List, Option, None, Some, IsSome, ⊤}
use Rattle.hw_net.specs.declared.netlist.Frame.{Frame}
use Rattle.hw_net.specs.declared.netlist.Net.{Net}
use Rattle.hw_net.specs.ByFrame.{number_at_frame}
use Rattle.hw_net.specs.Frames.{counter_of}

-- each frame has the number of its first Counter
pub record IsIndex (nets : List Net) (entries : List (Frame × ℕ)) : Type 0 where
  pub each : (frame : Frame) → number_at_frame entries frame ≡ counter_of nets frame

-- a frame that a net counts, if it counts any, has a number
abbrev pub IsKnown : List (Frame × ℕ) → Option Frame → Type 0
IsKnown entries None = ⊤
IsKnown entries (Some frame) = IsSome (number_at_frame entries frame)
