-- What the code of a step asks of a net.
use Rattle.std.specs.Prelude.{ℕ, zero, suc, ◌<◌, ◌≤◌, ⊤}
use Rattle.hw_net.specs.declared.netlist.NetOp.{NetOp}
use Rattle.hw_net.specs.declared.netlist.NetOp.TheVariants.{Input, Const, Resize, ShiftUp}
use Rattle.hw_net.specs.declared.netlist.NetOp.TheVariants.{ShiftDown, Add, Subtract, Negate}
use Rattle.hw_net.specs.declared.netlist.NetOp.TheVariants.{Multiply, And, Or, Xor, Not, Less}
use Rattle.hw_net.specs.declared.netlist.NetOp.TheVariants.{Equal, Choose, Slice}
use Rattle.hw_net.specs.declared.netlist.NetKind.{NetKind}
use Rattle.hw_net.specs.declared.netlist.NetKind.TheVariants.{Comb, Reg, EnReg, Acc, Bridge}
use Rattle.hw_net.specs.declared.netlist.NetKind.TheVariants.{Unit, Counter}

-- what an operation names is there: an input, and bits of 128
abbrev pub CanGive : ℕ → NetOp → Type 0
CanGive inputs (Input number) = number < inputs
CanGive inputs (Const value) = ⊤
CanGive inputs Resize = ⊤
CanGive inputs (ShiftUp places) = ⊤
CanGive inputs (ShiftDown places) = ⊤
CanGive inputs Add = ⊤
CanGive inputs Subtract = ⊤
CanGive inputs Negate = ⊤
CanGive inputs Multiply = ⊤
CanGive inputs And = ⊤
CanGive inputs Or = ⊤
CanGive inputs Xor = ⊤
CanGive inputs Not = ⊤
CanGive inputs Less = ⊤
CanGive inputs Equal = ⊤
CanGive inputs Choose = ⊤
CanGive inputs (Slice high low) = (low ≤ high) × (high < 128)

-- one fact holds at clock 0, and at each other what follows from the clock before
abbrev pub Shows : ℕ → Type 0 → (ℕ → Type 0) → Type 0
Shows zero Starts Steps = Starts
Shows (suc before) Starts Steps = Steps before

-- an operation has its parts, and a frame has clocks
abbrev pub CanStep : ℕ → NetKind → Type 0
CanStep inputs (Comb op args) = CanGive inputs op
CanStep inputs (Reg frame slot first from) = 0 < frame.period
CanStep inputs (EnReg frame enable reset first from) = 0 < frame.period
CanStep inputs (Acc frame enable from) = 0 < frame.period
CanStep inputs (Bridge frame live from) = 0 < frame.period
CanStep inputs (Unit left right) = ⊤
CanStep inputs (Counter frame) = 0 < frame.period
