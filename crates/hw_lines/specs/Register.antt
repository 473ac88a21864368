-- A register that is put in behind a net, and what a netlist grows by for it (own).
use Rattle.std.specs.Prelude.{◌≡◌, ℕ, ◌+◌, ◌≤◌, ℤ, [], ◌∷◌, length, slice_get}
use Rattle.std.specs.Prelude.{Some}
use Rattle.math_num.specs.Word.{IsWord, InWord}
use Rattle.hw_net.specs.declared.netlist.Frame.{Frame}
use Rattle.hw_net.specs.declared.netlist.Net.{Net}
use Rattle.hw_net.specs.Circuit.{Circuit}
use Rattle.hw_net.specs.Frames.{register_count}
use Rattle.hw_net.specs.Registers.{IsReg}
use Rattle.hw_net.specs.Netlist.{HasWord}
use Rattle.hw_net.specs.NetRows.{span_of}
use Rattle.hw_net.specs.Growing.{InRows, Appends, IsNewReg}
use Rattle.hw_lines.specs.Chain.{IsPart}

-- the net is there in a word
pub record IsThere (netlist : Circuit) (from : ℕ) : Type 0 where
  pub net : Net
  pub is : slice_get netlist.nets from ≡ Some net
  pub word : IsWord net.width net.signed

-- and the word has this number
pub record CanHold (netlist : Circuit) (from : ℕ) (first : ℤ) : Type 0 where
  pub there : IsThere netlist from
  pub has_first : InWord there.net.width there.net.signed first

-- registers, bridges where they may be, and Counters of such frames were put behind the nets, and
-- read this net alone of those that stood
pub record Grows (before after : Circuit) (named : ℕ) (bridges : Type 0)
    (frames : Frame → Type 0) : Type 0 where
  pub appends : Appends before after (named ∷ [])
  pub parts : (k : ℕ) (net : Net) → length before.nets ≤ k → slice_get after.nets k ≡ Some net
      → IsPart bridges frames net.kind

-- for a net that is so given one register was put in, as a bridge only where these may be, and the
-- Counter of its frame
pub record Adds (before after : Circuit) (named : ℕ) (frame : Frame) (bridges : Type 0)
    (given : Type 0) : Type 0 where
  pub is : given
  pub grown : Grows before after named bridges (λ other. other ≡ frame)
  pub few : register_count after.nets ≡ register_count before.nets + 1

-- the second net has the word of the first
abbrev pub SameWord : Circuit → Circuit → ℕ → ℕ → Type 0
SameWord before after from number =
    (net : Net) → slice_get before.nets from ≡ Some net
    → HasWord after.nets number net.width net.signed

-- the net is a register of its own that takes another at a slot of a frame, in its word, and has
-- `first` before
pub record IsHeld (before after : Circuit) (from : ℕ) (frame : Frame) (slot : ℕ) (first : ℤ)
    (number : ℕ) : Type 0 where
  pub shows : InRows before after (λ n rows.
      IsReg n (span_of before.cycles frame) slot first (rows from) (rows number))
  pub word : SameWord before after from number
  pub new : IsNewReg before after number
