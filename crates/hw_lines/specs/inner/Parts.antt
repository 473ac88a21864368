-- The nets of a chain, one after another.
use Rattle.std.specs.Prelude.{◌≡◌, ℕ, ◌*◌, ◌≤◌, ◌⊎◌, List, length, slice_get, Some}
use Rattle.hw_net.specs.declared.netlist.Frame.{Frame}
use Rattle.hw_net.specs.Circuit.{Circuit}
use Rattle.hw_net.specs.Registers.{IsBridge}
use Rattle.hw_net.specs.NetRows.{span_of}
use Rattle.hw_net.specs.Growing.{InRows, IsNewReg}
use Rattle.hw_lines.specs.declared.source.Source.{Source}
use Rattle.hw_lines.specs.Register.{SameWord}
use Rattle.hw_lines.specs.Taps.{IsTap}

pub record IsBridged (before after : Circuit) (from : ℕ) (frame : Frame)
    (live number : ℕ) : Type 0 where
  pub shows : InRows before after (λ n rows.
      IsBridge n (span_of before.cycles frame) (live * before.cycles) (rows from) (rows number))
  pub word : SameWord before after from number
  pub new : length before.nets ≤ number

-- tap k of a source: the source itself, or a register of the chain
pub record IsTapAt (before after : Circuit) (source : Source) (k number : ℕ) : Type 0 where
  pub shows : InRows before after (λ n rows.
      IsTap n (span_of before.cycles source.frame) k source.first (rows source.from) (rows number))
  pub word : SameWord before after source.from number
  pub stands : ((k ≡ 0) × (number ≡ source.from)) ⊎ IsNewReg before after number

pub record AreTaps (before after : Circuit) (source : Source) (taps : List ℕ) : Type 0 where
  pub each : (k number : ℕ) → slice_get taps k ≡ Some number → IsTapAt before after source k number
