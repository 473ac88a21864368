-- A net that tells the clocks of some slots.
use Rattle.std.specs.Prelude.{◌≡◌, ◌≢◌, ℕ, ◌<◌, ◌≤◌, ◌++◌, ◌∷◌, List, [], length, take, Contains}
use Rattle.std.specs.Prelude.{Option, Some, None, pos, false}
use Rattle.hw_net.specs.declared.netlist.Frame.{Frame}
use Rattle.hw_net.specs.Circuit.{Circuit}
use Rattle.hw_net.specs.Growing.{Extends, InRows}
use Rattle.hw_net.specs.Netlist.{HasWord}
use Rattle.hw_net.specs.NetRows.{span_of}
use Rattle.hw_net.specs.Registers.{Wave, Span, Takes}
use Rattle.hw_share.specs.inner.Parts.{Grows, IsChoosing}

-- the wave isn't 0 in the clocks of the slots, and is 0 in all others
pub record Gates (n : ℕ) (span : Span) (slots : List ℕ) (wave : Wave) : Type 0 where
  pub on : (c slot : ℕ) → c < n → Contains slots slot → Takes span slot c → wave c ≢ pos 0
  pub off : (c : ℕ) → c < n → ((slot : ℕ) → Contains slots slot → ¬ Takes span slot c)
      → wave c ≡ pos 0

-- the net of this number does so, in one bit; tests and choices were put in for it
pub record IsGateAt (before after : Circuit) (frame : Frame) (slots : List ℕ) (number : ℕ)
    : Type 0 where
  pub shows : InRows before after (λ n rows.
      Gates n (span_of before.cycles frame) slots (rows number))
  pub bit : HasWord after.nets number 1 false
  pub new : length before.nets ≤ number
  pub grown : Grows before after [] (IsChoosing (λ other. other ≡ frame)) 0

-- a gate with one slot more, or that of the first
pub record Opens (now new : Circuit) (frame : Frame) (known : Option ℕ) (slot number : ℕ)
    : Type 0 where
  pub extends : Extends now new
  pub first : known ≡ None → IsGateAt now new frame (slot ∷ []) number
  pub more : (before : Circuit) (slots : List ℕ) (gate : ℕ) → known ≡ Some gate
      → IsGateAt before now frame slots gate → IsGateAt before new frame (slots ++ slot ∷ []) number

-- the gate of the first slots, if there are any
pub record IsGated (before now : Circuit) (frame : Frame) (slots : List ℕ) (count : ℕ)
    (known : Option ℕ) : Type 0 where
  pub extends : Extends before now
  pub begun : known ≡ None → (now ≡ before) × (count ≡ 0)
  pub gates : (gate : ℕ) → known ≡ Some gate → IsGateAt before now frame (take count slots) gate
