-- The ends of the chains of multipliers, as operations join them one after another.
use Rattle.std.specs.Prelude.{◌≡◌, ℕ, ◌<◌, ◌≤◌, List, [], ◌∷◌, All, length, slice_get}
use Rattle.std.specs.Prelude.{slice_index_or, Option, None, Some, IsSome}
use Rattle.hw_net.specs.Circuit.{Circuit}
use Rattle.hw_net.specs.Registers.{Wave, Span, Takes}
use Rattle.hw_net.specs.NetRows.{span_of}
use Rattle.hw_net.specs.declared.netlist.Frame.{Frame}
use Rattle.hw_net.specs.Growing.{Extends, InRows}
use Rattle.hw_share.specs.declared.operation.Operation.{Operation}
use Rattle.hw_share.specs.declared.joining.Ends.{Ends}
use Rattle.hw_share.specs.Operations.{IsOperation, SameWord, operands_of, unit_count}
use Rattle.hw_share.specs.Shared.{IsFrameOf}
use Rattle.hw_share.specs.inner.Parts.{IsNamed, Grows, IsChoosing}
use Rattle.hw_share.specs.inner.Choices.{HaveOneWord}

-- in the clock of the slot of each frame the wave has one operand, and else the other
pub record Selects (n : ℕ) (span : Span) (slot : ℕ) (operand other wave : Wave) : Type 0 where
  pub on : (c : ℕ) → c < n → Takes span slot c → wave c ≡ operand c
  pub off : (c : ℕ) → c < n → ¬ Takes span slot c → wave c ≡ other c

-- the operands of an operation, as ends
abbrev pub own_ends : Operation → Ends
own_ends one = record { left = one.left; right = one.right }

-- an operation may join these ends
pub record CanJoin (netlist : Circuit) (old : Ends) (one : Operation) : Type 0 where
  pub is : IsOperation netlist one
  pub cycles : 0 < netlist.cycles
  pub left : HaveOneWord netlist one.left old.left
  pub right : HaveOneWord netlist one.right old.right

-- the netlist goes on to be one that has grown from the first by choices of operations
abbrev pub GrowsOn : Circuit → Circuit → Circuit → List ℕ → Frame → Type 0
GrowsOn before now new reads frame = (operations : List Operation) (named : List ℕ)
    → IsFrameOf operations frame → All (IsNamed before now named) reads
    → Grows before now named (IsChoosing (IsFrameOf operations)) 0
    → Grows before new named (IsChoosing (IsFrameOf operations)) 0

-- the ends of chains to which an operation was put, in a netlist that has grown from a first one
pub record HasJoined (before now new : Circuit) (old : Ends) (one : Operation) (end : Ends)
    : Type 0 where
  pub left : InRows before new (λ n rows. Selects n (span_of before.cycles one.frame) one.slot
      (rows one.left) (rows old.left) (rows end.left))
  pub right : InRows before new (λ n rows. Selects n (span_of before.cycles one.frame) one.slot
      (rows one.right) (rows old.right) (rows end.right))
  pub left_word : SameWord now new one.left end.left
  pub right_word : SameWord now new one.right end.right
  pub left_new : length now.nets ≤ end.left
  pub right_new : length now.nets ≤ end.right
  pub extends : Extends now new
  pub grown : GrowsOn before now new (one.left ∷ one.right ∷ old.left ∷ old.right ∷ []) one.frame

-- an operation begins the chains of its multiplier, or is put to them
pub record IsJoined (before now new : Circuit) (known : Option Ends) (one : Operation) (end : Ends)
    : Type 0 where
  pub begun : known ≡ None → (new ≡ now) × (end ≡ own_ends one)
  pub more : (old : Ends) → known ≡ Some old → HasJoined before now new old one end

-- in the slot of an operation the ends have its operands
pub record Offers (n : ℕ) (span : Span) (slot : ℕ) (left right first second : Wave)
    : Type 0 where
  pub left_is : (c : ℕ) → c < n → Takes span slot c → first c ≡ left c
  pub right_is : (c : ℕ) → c < n → Takes span slot c → second c ≡ right c

abbrev pub AreOffered : Circuit → Circuit → Operation → Ends → Type 0
AreOffered before after one ends =
    InRows before after (λ n rows. Offers n (span_of before.cycles one.frame) one.slot
    (rows one.left) (rows one.right) (rows ends.left) (rows ends.right))

-- the ends of a multiplier, if it has any
abbrev pub ends_at : List (Option Ends) → ℕ → Option Ends
ends_at ends unit = slice_index_or ends unit None

-- the first i operations have joined the chains of their multipliers, which have these ends
pub record AreEnds (before now : Circuit) (operations : List Operation)
    (ends : List (Option Ends)) (i : ℕ) : Type 0 where
  pub size : length ends ≡ unit_count operations
  pub taken : (k : ℕ) (one : Operation) → k < i → slice_get operations k ≡ Some one
      → IsSome (ends_at ends one.unit)
  pub offered : (k : ℕ) (one : Operation) (own : Ends) → k < i
      → slice_get operations k ≡ Some one → ends_at ends one.unit ≡ Some own
      → AreOffered before now one own
  pub left_word : (k : ℕ) (one : Operation) (own : Ends) → slice_get operations k ≡ Some one
      → ends_at ends one.unit ≡ Some own → SameWord before now one.left own.left
  pub right_word : (k : ℕ) (one : Operation) (own : Ends) → slice_get operations k ≡ Some one
      → ends_at ends one.unit ≡ Some own → SameWord before now one.right own.right
  pub named : (unit : ℕ) (own : Ends) → ends_at ends unit ≡ Some own
      → IsNamed before now (operands_of operations) own.left
      × IsNamed before now (operands_of operations) own.right
  pub grown : Grows before now (operands_of operations) (IsChoosing (IsFrameOf operations)) 0
