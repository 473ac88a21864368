-- What is asked of operations that share multipliers (own; HDL Coder, resource sharing).
use Rattle.std.specs.Prelude.{◌≡◌, ◌≢◌, ℕ, ◌+◌, ◌*◌, ◌<◌, ◌≤◌, ◌||◌, max, List, [], ◌∷◌, slice_get}
use Rattle.std.specs.Prelude.{Some}
use Rattle.math_num.specs.Word.{IsWord}
use Rattle.hw_net.specs.declared.netlist.Net.{Net}
use Rattle.hw_net.specs.Circuit.{Circuit}
use Rattle.hw_net.specs.Emittable.{most_period}
use Rattle.hw_net.specs.Netlist.{HasWord}
use Rattle.hw_share.specs.declared.operation.Operation.{Operation}

-- the operands of operations, in order
abbrev pub operands_of : List Operation → List ℕ
operands_of [] = []
operands_of (one ∷ operations) = one.left ∷ one.right ∷ operands_of operations

-- how many multipliers operations have, if these are numbered from 0
abbrev pub unit_count : List Operation → ℕ
unit_count [] = 0
unit_count (one ∷ operations) = max (one.unit + 1) (unit_count operations)

-- The operands are there in words whose product has a word, and the slot is a clock of the frame.
pub record IsOperation (netlist : Circuit) (one : Operation) : Type 0 where
  pub left : Net
  pub right : Net
  pub left_is : slice_get netlist.nets one.left ≡ Some left
  pub right_is : slice_get netlist.nets one.right ≡ Some right
  pub left_word : IsWord left.width left.signed
  pub right_word : IsWord right.width right.signed
  pub product : IsWord (left.width + right.width) (left.signed || right.signed)
  pub some : 0 < one.frame.period
  pub most : one.frame.period ≤ most_period
  pub inside : one.slot < one.frame.period * netlist.cycles

-- a net of the later netlist has the word that a net has in the former
abbrev pub SameWord : Circuit → Circuit → ℕ → ℕ → Type 0
SameWord before after from number =
    (net : Net) → slice_get before.nets from ≡ Some net
    → HasWord after.nets number net.width net.signed

-- two operations have one frame, different slots, and operands of the same words
pub record AreApart (netlist : Circuit) (one other : Operation) : Type 0 where
  pub frames : other.frame ≡ one.frame
  pub slots : one.slot ≢ other.slot
  pub left : SameWord netlist netlist one.left other.left
  pub right : SameWord netlist netlist one.right other.right

-- the multiplier serves an operation
pub record IsUsed (operations : List Operation) (unit : ℕ) : Type 0 where
  pub place : ℕ
  pub one : Operation
  pub is : slice_get operations place ≡ Some one
  pub has : one.unit ≡ unit

-- operations can share multipliers: two that have the same are apart, and no multiplier is idle
pub record CanShare (netlist : Circuit) (operations : List Operation) : Type 0 where
  pub each : (k : ℕ) (one : Operation) → slice_get operations k ≡ Some one
      → IsOperation netlist one
  pub apart : (j k : ℕ) (one other : Operation) → j ≢ k → slice_get operations j ≡ Some one
      → slice_get operations k ≡ Some other → one.unit ≡ other.unit → AreApart netlist one other
  pub used : (unit : ℕ) → unit < unit_count operations → IsUsed operations unit
