-- A test for a clock of a frame, and a choice by it.
use Rattle.std.specs.Prelude.{◌≡◌, ◌≢◌, ℕ, ◌*◌, ◌<◌, ◌≤◌, pos, length, false}
use Rattle.hw_net.specs.declared.netlist.Frame.{Frame}
use Rattle.hw_net.specs.Circuit.{Circuit}
use Rattle.hw_net.specs.Registers.{Wave, Span, Takes}
use Rattle.hw_net.specs.Netlist.{HasWord}
use Rattle.hw_net.specs.NetRows.{span_of}
use Rattle.hw_net.specs.Growing.{InRows}
use Rattle.hw_share.specs.Operations.{SameWord}
use Rattle.hw_lines.specs.Register.{IsThere}

-- the slot is one of the frame's
pub record IsSlotOf (netlist : Circuit) (frame : Frame) (slot : ℕ) : Type 0 where
  pub cycles : 0 < netlist.cycles
  pub period : 0 < frame.period
  pub inside : slot < frame.period * netlist.cycles

-- the wave is 1 in the clock of the slot of each frame, and else 0
pub record Tests (n : ℕ) (span : Span) (slot : ℕ) (wave : Wave) : Type 0 where
  pub on : (c : ℕ) → c < n → Takes span slot c → wave c ≡ pos 1
  pub off : (c : ℕ) → c < n → ¬ Takes span slot c → wave c ≡ pos 0

pub record IsTestAt (before after : Circuit) (frame : Frame) (slot number : ℕ) : Type 0 where
  pub shows : InRows before after (λ n rows.
      Tests n (span_of before.cycles frame) slot (rows number))
  pub there : IsThere after number
  pub bit : HasWord after.nets number 1 false
  pub new : length before.nets ≤ number

-- both nets are there, in one word
pub record HaveOneWord (netlist : Circuit) (one other : ℕ) : Type 0 where
  pub there : IsThere netlist one
  pub same : SameWord netlist netlist one other

-- the second wave where the first isn't 0, else the third
pub record Chooses (n : ℕ) (test chosen other wave : Wave) : Type 0 where
  pub on : (c : ℕ) → c < n → test c ≢ pos 0 → wave c ≡ chosen c
  pub off : (c : ℕ) → c < n → test c ≡ pos 0 → wave c ≡ other c

pub record IsChoiceAt (before after : Circuit) (test chosen other number : ℕ) : Type 0 where
  pub shows : InRows before after (λ n rows.
      Chooses n (rows test) (rows chosen) (rows other) (rows number))
  pub word : SameWord before after chosen number
  pub new : length before.nets ≤ number
