-- Which multiplications a netlist has, and which of them serves a shared operation in which clock
-- (own; HDL Coder, resource sharing).
use Rattle.std.specs.Prelude.{◌≡◌, ℕ, ◌+◌, ◌*◌, ◌%◌, ◌<◌, List, [], ◌∷◌, length, Some, slice_get, get_or}
use Rattle.std.specs.List.{flat_map}
use Rattle.std.specs.Prelude.{ℤ}
use Rattle.dg_model.specs.declared.diagram.Diagram.{Diagram}
use Rattle.dg_model.specs.declared.diagram.Block.{Block}
use Rattle.dg_model.specs.declared.resolved.Resolved.{Resolved}
use Rattle.dg_model.specs.Attributes.{attributes_of}
use Rattle.dg_model.specs.Equation.{StoresEntry}
use Rattle.dg_model.specs.KindRow.{FullRule}
use Rattle.dg_model.specs.Library.{row_of}
use Rattle.dg_model.specs.Signals.{Stimulus, Table}
use Rattle.dg_model.specs.Wires.{value_into}
use Rattle.hw_arcs.specs.Latencies.{latency_at}
use Rattle.hw_net.specs.declared.netlist.NetOp.{NetOp}
use Rattle.hw_net.specs.declared.netlist.NetOp.TheVariants.{Input, Const, Resize, ShiftUp, ShiftDown, Add, Subtract, Negate, Multiply, And, Or, Xor, Not, Less, Equal, Choose, Slice}
use Rattle.hw_net.specs.declared.netlist.NetKind.{NetKind}
use Rattle.hw_net.specs.declared.netlist.NetKind.TheVariants.{Comb, Reg, EnReg, Acc, Bridge, Unit, Counter}
use Rattle.hw_net.specs.Circuit.{Circuit}
use Rattle.hw_net.specs.NetRows.{Inputs, Rows}
use Rattle.hw_sched.specs.Slots.{Timing as Times, Operation, slot_of, unit_of}
use Rattle.hw_sched.specs.Ready.{units_in_all, unshared}
use Rattle.hw_sched.specs.Laws.{IsOperation}
use Rattle.hw_build.specs.Places.{IsRunOf}

-- the nets of two factors
pub record Factors : Type 0 where
  pub left : ℕ
  pub right : ℕ

-- those of a shared multiplier
abbrev pub unit_factors : NetKind → List Factors
unit_factors (Comb op args) = []
unit_factors (Reg frame slot first from) = []
unit_factors (EnReg frame enable reset first from) = []
unit_factors (Acc frame enable from) = []
unit_factors (Bridge frame live from) = []
unit_factors (Unit left right) = record { left = left; right = right } ∷ []
unit_factors (Counter frame) = []

-- and of a multiplication that is shared by none
abbrev pub op_factors : List ℕ → NetOp → List Factors
op_factors args (Input number) = []
op_factors args (Const value) = []
op_factors args Resize = []
op_factors args (ShiftUp places) = []
op_factors args (ShiftDown places) = []
op_factors args Add = []
op_factors args Subtract = []
op_factors args Negate = []
op_factors args Multiply = record { left = get_or args 0 0; right = get_or args 1 0 } ∷ []
op_factors args And = []
op_factors args Or = []
op_factors args Xor = []
op_factors args Not = []
op_factors args Less = []
op_factors args Equal = []
op_factors args Choose = []
op_factors args (Slice high low) = []

abbrev pub own_factors : NetKind → List Factors
own_factors (Comb op args) = op_factors args op
own_factors (Reg frame slot first from) = []
own_factors (EnReg frame enable reset first from) = []
own_factors (Acc frame enable from) = []
own_factors (Bridge frame live from) = []
own_factors (Unit left right) = []
own_factors (Counter frame) = []

-- the shared multipliers of a netlist in order, and its other multiplications
abbrev pub multipliers : Circuit → List Factors
multipliers netlist = flat_map (λ net. unit_factors net.kind) netlist.nets

abbrev pub others : Circuit → List Factors
others netlist = flat_map (λ net. own_factors net.kind) netlist.nets

-- the second operand of an element at a hit: what the second input carries, or the coefficient
abbrev pub IsSecond : Diagram → Table → ℕ → ℕ → ℕ → FullRule → ℤ → Type 0
IsSecond diagram table block element t FullRule.NoFull v = ⊥
IsSecond diagram table block element t (FullRule.FullSum negative accum) v = ⊥
IsSecond diagram table block element t (FullRule.FullScaled value param) v = StoresEntry value element ((attributes_of diagram).param_at block) v
IsSecond diagram table block element t FullRule.FullProduct v = v ≡ value_into diagram (attributes_of diagram) table block 2 element t
IsSecond diagram table block element t FullRule.UnionOfTwo v = ⊥
IsSecond diagram table block element t FullRule.UnionOfEnds v = ⊥

-- the operands of an element at a hit
pub record AreOperands (diagram : Diagram) (table : Table) (block : ℕ) (b : Block) (element t : ℕ) (left right : ℤ) : Type 0 where
  pub first : left ≡ value_into diagram (attributes_of diagram) table block 1 element t
  pub second : IsSecond diagram table block element t (row_of b.kind).types.full right

-- the clock in which an operation is served for a hit
abbrev pub clock_of : Diagram → Resolved → Times → ℕ → Operation → ℕ → ℕ
clock_of diagram plan times number o t = (t + latency_at times.lat o.block) * plan.cycles + slot_of diagram (attributes_of diagram) plan times number o

-- the multiplier of an operation has its operands in that clock
pub record IsServedIn (diagram : Diagram) (plan : Resolved) (times : Times) (netlist : Circuit) (number : ℕ) (o : Operation) (b : Block) : Type 0 where
  pub factors : Factors
  pub at : slice_get (multipliers netlist) (unit_of diagram (attributes_of diagram) plan times number o) ≡ Some factors
  pub serves : (stimulus : Stimulus) (n clocks : ℕ) (inputs : Inputs) (rows : Rows) (table : Table) → IsRunOf diagram netlist stimulus n clocks inputs rows table
      → (t period : ℕ) → (attributes_of diagram).period_at o.block ≡ Some period → t % period ≡ 0 → t < n → clock_of diagram plan times number o t < clocks
      → AreOperands diagram table o.block b o.element t (rows factors.left (clock_of diagram plan times number o t)) (rows factors.right (clock_of diagram plan times number o t))

-- every shared operation is served, and there are as many multiplications as are owed
pub record Serves (diagram : Diagram) (plan : Resolved) (times : Times) (netlist : Circuit) : Type 0 where
  pub each : (number : ℕ) (o : Operation) (b : Block) → IsOperation diagram (attributes_of diagram) plan number o
      → slice_get diagram.blocks o.block ≡ Some b → IsServedIn diagram plan times netlist number o b
  pub shared : length (multipliers netlist) ≡ units_in_all diagram (attributes_of diagram) plan times
  pub own : length (others netlist) ≡ unshared diagram (attributes_of diagram) plan
