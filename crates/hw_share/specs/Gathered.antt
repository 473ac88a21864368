-- What is owed for a sum that is gathered clock by clock (own).
use Rattle.std.specs.Prelude.{◌≡◌, ◌≢◌, ℕ, ◌+◌, ◌*◌, ◌<◌, ◌≤◌, List, [], ◌∷◌, length, Contains, ⊤}
use Rattle.std.specs.Prelude.{ℤ, pos, ◌+ℤ◌, Bool, slice_get, Some}
use Rattle.math_num.specs.Word.{IsWrapped}
use Rattle.hw_net.specs.declared.netlist.Frame.{Frame}
use Rattle.hw_net.specs.declared.netlist.Net.{Net}
use Rattle.hw_net.specs.declared.netlist.NetKind.{NetKind}
use Rattle.hw_net.specs.declared.netlist.NetKind.TheVariants.{Comb, Reg, EnReg, Acc}
use Rattle.hw_net.specs.declared.netlist.NetKind.TheVariants.{Bridge, Unit, Counter}
use Rattle.hw_net.specs.Circuit.{Circuit}
use Rattle.hw_net.specs.Closed.{frame_start}
use Rattle.hw_net.specs.Frames.{register_count}
use Rattle.hw_net.specs.Growing.{Appends, InRows}
use Rattle.hw_net.specs.NetRows.{span_of}
use Rattle.hw_net.specs.Registers.{Wave, Span}
use Rattle.hw_lines.specs.Register.{IsThere}
use Rattle.hw_share.specs.Operations.{SameWord}
use Rattle.hw_share.specs.Shared.{IsChoosingOp}

-- what a wave shows in the clocks of slots of the frame that begins so, added up
abbrev pub gathered : Wave → ℕ → List ℕ → ℤ
gathered from start [] = pos 0
gathered from start (slot ∷ slots) = from (start + slot) +ℤ gathered from start slots

-- behind the clocks of the slots, to the end of each frame, the wave is their sum, cut to the word
pub record Gathers (n : ℕ) (span : Span) (width : ℕ) (signed : Bool) (slots : List ℕ)
    (from wave : Wave) : Type 0 where
  pub at : (k j : ℕ) → frame_start span k + j < n → j < span.length
      → ((slot : ℕ) → Contains slots slot → slot < j)
      → IsWrapped (gathered from (frame_start span k) slots) width signed
      (wave (frame_start span k + j))

-- no two slots are one
abbrev pub SlotsDiffer : List ℕ → Type 0
SlotsDiffer [] = ⊤
SlotsDiffer (slot ∷ slots) =
    ((other : ℕ) → Contains slots other → slot ≢ other) × SlotsDiffer slots

-- what a net shows in the clocks of slots can be gathered: there is such a clock, and none is that
-- of another
pub record CanGather (netlist : Circuit) (frame : Frame) (from : ℕ) (slots : List ℕ)
    : Type 0 where
  pub cycles : 0 < netlist.cycles
  pub period : 0 < frame.period
  pub from_there : IsThere netlist from
  pub some : 1 ≤ length slots
  pub inside : (slot : ℕ) → Contains slots slot → slot < frame.period * netlist.cycles
  pub differ : SlotsDiffer slots

-- tests, choices, an accumulator, and Counters of such frames alone
abbrev pub IsGatheringPart : (Frame → Type 0) → NetKind → Type 0
IsGatheringPart frames (Comb op args) = IsChoosingOp op
IsGatheringPart frames (Reg frame slot first from) = ⊥
IsGatheringPart frames (EnReg frame enable reset first from) = ⊥
IsGatheringPart frames (Acc frame enable from) = ⊤
IsGatheringPart frames (Bridge frame live from) = ⊥
IsGatheringPart frames (Unit left right) = ⊥
IsGatheringPart frames (Counter frame) = frames frame

-- In every later netlist the net of this number gathers what another shows, in its word. What was
-- put behind the nets are choices, one register and the Counter of the frame.
pub record IsGathered (before after : Circuit) (frame : Frame) (from : ℕ) (slots : List ℕ)
    (number : ℕ) : Type 0 where
  pub shows : (net : Net) → slice_get before.nets from ≡ Some net → InRows before after (λ n rows.
      Gathers n (span_of before.cycles frame) net.width net.signed slots
      (rows from) (rows number))
  pub word : SameWord before after from number
  pub new : length before.nets ≤ number
  pub appends : Appends before after (from ∷ [])
  pub parts : (k : ℕ) (net : Net) → length before.nets ≤ k → slice_get after.nets k ≡ Some net
      → IsGatheringPart (λ other. other ≡ frame) net.kind
  pub registers : register_count after.nets ≡ register_count before.nets + 1
