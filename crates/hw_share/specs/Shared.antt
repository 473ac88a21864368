-- What is owed for operations that share multipliers (own; HDL Coder, resource sharing).
use Rattle.std.specs.Prelude.{◌≡◌, ℕ, ◌+◌, ◌<◌, ◌≤◌, ◌||◌, ◌↔◌, List, length, Contains}
use Rattle.std.specs.Prelude.{slice_get, Some, Bool, true, false, ⊤}
use Rattle.hw_net.specs.declared.netlist.Frame.{Frame}
use Rattle.hw_net.specs.declared.netlist.Net.{Net}
use Rattle.hw_net.specs.declared.netlist.NetOp.{NetOp}
use Rattle.hw_net.specs.declared.netlist.NetOp.TheVariants.{Input, Const, Resize, ShiftUp}
use Rattle.hw_net.specs.declared.netlist.NetOp.TheVariants.{ShiftDown, Add, Subtract, Negate}
use Rattle.hw_net.specs.declared.netlist.NetOp.TheVariants.{Multiply, And, Or, Xor, Not, Less}
use Rattle.hw_net.specs.declared.netlist.NetOp.TheVariants.{Equal, Choose, Slice}
use Rattle.hw_net.specs.declared.netlist.NetKind.{NetKind}
use Rattle.hw_net.specs.declared.netlist.NetKind.TheVariants.{Comb, Reg, EnReg, Acc, Bridge, Unit}
use Rattle.hw_net.specs.declared.netlist.NetKind.TheVariants.{Counter}
use Rattle.hw_net.specs.Circuit.{Circuit}
use Rattle.hw_net.specs.Frames.{register_count}
use Rattle.hw_net.specs.Growing.{InRows, Appends, IsNewReg}
use Rattle.hw_net.specs.Netlist.{HasWord}
use Rattle.hw_net.specs.NetRows.{span_of}
use Rattle.hw_share.specs.declared.operation.Operation.{Operation}
use Rattle.hw_share.specs.declared.sharing.Shared.{Shared}
use Rattle.hw_share.specs.Operations.{operands_of, unit_count}
use Rattle.hw_share.specs.Serving.{Serves}

-- the net of this number multiplies these two
pub record IsUnitAt (nets : List Net) (number left right : ℕ) : Type 0 where
  pub net : Net
  pub is : slice_get nets number ≡ Some net
  pub multiplies : net.kind ≡ Unit left right

-- the net has the word of the product of two nets
abbrev pub HasProductWord : Circuit → Circuit → ℕ → ℕ → ℕ → Type 0
HasProductWord before after left right number =
    (one other : Net) → slice_get before.nets left ≡ Some one
    → slice_get before.nets right ≡ Some other
    → HasWord after.nets number (one.width + other.width) (one.signed || other.signed)

-- In every later netlist the Unit net of a number serves the operation, and the register that is
-- its result keeps the product, in the word of products.
pub record IsServed (before after : Circuit) (one : Operation) (unit result : ℕ) : Type 0 where
  pub left : ℕ
  pub right : ℕ
  pub multiplies : IsUnitAt after.nets unit left right
  pub serves : InRows before after (λ n rows.
      Serves n (span_of before.cycles one.frame) one.slot (rows one.left) (rows one.right)
      (rows left) (rows right) (rows result))
  pub word : HasProductWord before after one.left one.right result
  pub holds : IsNewReg before after result

-- some operation stands in this frame
abbrev pub IsFrameOf : List Operation → Frame → Type 0
IsFrameOf operations frame = (one : Operation) × Contains operations one × (frame ≡ one.frame)

-- a number, a test for it, or a choice
abbrev pub IsChoosingOp : NetOp → Type 0
IsChoosingOp (Input number) = ⊥
IsChoosingOp (Const value) = ⊤
IsChoosingOp Resize = ⊥
IsChoosingOp (ShiftUp places) = ⊥
IsChoosingOp (ShiftDown places) = ⊥
IsChoosingOp Add = ⊥
IsChoosingOp Subtract = ⊥
IsChoosingOp Negate = ⊥
IsChoosingOp Multiply = ⊥
IsChoosingOp And = ⊥
IsChoosingOp Or = ⊥
IsChoosingOp Xor = ⊥
IsChoosingOp Not = ⊥
IsChoosingOp Less = ⊥
IsChoosingOp Equal = ⊤
IsChoosingOp Choose = ⊤
IsChoosingOp (Slice high low) = ⊥

-- choices, registers, multipliers, and Counters of such frames alone
abbrev pub IsPart : (Frame → Type 0) → NetKind → Type 0
IsPart frames (Comb op args) = IsChoosingOp op
IsPart frames (Reg frame slot first from) = ⊤
IsPart frames (EnReg frame enable reset first from) = ⊥
IsPart frames (Acc frame enable from) = ⊥
IsPart frames (Bridge frame live from) = ⊥
IsPart frames (Unit left right) = ⊤
IsPart frames (Counter frame) = frames frame

abbrev pub is_unit : NetKind → Bool
is_unit (Unit left right) = true
is_unit _ = false

-- the Unit nets that were put behind the others are `count` nets from the net `first` on
pub record AreUnits (before after : Circuit) (first count : ℕ) : Type 0 where
  pub new : length before.nets ≤ first
  pub room : first + count ≤ length after.nets
  pub are : (k : ℕ) (net : Net) → length before.nets ≤ k → slice_get after.nets k ≡ Some net
      → (is_unit net.kind ≡ true) ↔ ((first ≤ k) × (k < first + count))

-- Operations are served, each by the Unit net of its multiplier, and have their results in order.
-- What was put behind the nets are choices, Counters of the operations' frames, one Unit net for
-- each multiplier, in order, and one register for each operation.
pub record AreShared (before after : Circuit) (operations : List Operation)
    (results : List ℕ) : Type 0 where
  pub first : ℕ
  pub count : length results ≡ length operations
  pub served : (k : ℕ) (one : Operation) (result : ℕ) → slice_get operations k ≡ Some one
      → slice_get results k ≡ Some result
      → IsServed before after one (first + one.unit) result
  pub appends : Appends before after (operands_of operations)
  pub parts : (k : ℕ) (net : Net) → length before.nets ≤ k → slice_get after.nets k ≡ Some net
      → IsPart (IsFrameOf operations) net.kind
  pub units : AreUnits before after first (unit_count operations)
  pub registers : register_count after.nets ≡ register_count before.nets + length operations

-- operations are served by results and Unit nets that are told by their numbers
pub record SharesUnits (before after : Circuit) (operations : List Operation) (shared : Shared)
    : Type 0 where
  pub owed : AreShared before after operations shared.results
  pub numbers : (unit : ℕ) → unit < unit_count operations
      → slice_get shared.numbers unit ≡ Some (owed.first + unit)
