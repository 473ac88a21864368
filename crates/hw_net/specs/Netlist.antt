-- Which netlists can be run (own).
use Rattle.std.specs.Prelude.{◌≡◌, ℕ, ◌+◌, ◌-◌, ◌*◌, ◌<◌, ◌≤◌, List, [], ◌∷◌, length, All}
use Rattle.std.specs.Prelude.{slice_get, Some, Bool, ℤ, pos, ◌*ℤ◌, ⊤}
use Rattle.math_num.specs.Word.{IsWord, InWord}
use Rattle.hw_net.specs.declared.netlist.Net.{Net}
use Rattle.hw_net.specs.declared.netlist.NetPort.{NetPort}
use Rattle.hw_net.specs.declared.netlist.NetOp.{NetOp}
use Rattle.hw_net.specs.declared.netlist.NetOp.TheVariants.{Input, Const, Resize, ShiftUp}
use Rattle.hw_net.specs.declared.netlist.NetOp.TheVariants.{ShiftDown, Add, Subtract, Negate}
use Rattle.hw_net.specs.declared.netlist.NetOp.TheVariants.{Multiply, And, Or, Xor, Not, Less}
use Rattle.hw_net.specs.declared.netlist.NetOp.TheVariants.{Equal, Choose, Slice}
use Rattle.hw_net.specs.declared.netlist.NetKind.{NetKind}
use Rattle.hw_net.specs.declared.netlist.NetKind.TheVariants.{Comb, Reg, EnReg, Acc, Bridge}
use Rattle.hw_net.specs.declared.netlist.NetKind.TheVariants.{Unit, Counter}
use Rattle.hw_net.specs.Circuit.{Circuit}
use Rattle.hw_net.specs.Operation.{arity}

-- the nets that a net reads
abbrev pub reads : NetKind → List ℕ
reads (Comb op args) = args
reads (Reg frame slot first from) = from ∷ []
reads (EnReg frame enable reset first from) = enable ∷ from ∷ []
reads (Acc frame enable from) = enable ∷ from ∷ []
reads (Bridge frame live from) = from ∷ []
reads (Unit left right) = left ∷ right ∷ []
reads (Counter frame) = []

-- those that it reads in the same clock
abbrev pub reads_now : NetKind → List ℕ
reads_now (Comb op args) = args
reads_now (Reg frame slot first from) = []
reads_now (EnReg frame enable reset first from) = []
reads_now (Acc frame enable from) = []
reads_now (Bridge frame live from) = from ∷ []
reads_now (Unit left right) = left ∷ right ∷ []
reads_now (Counter frame) = []

-- the net of this number is there and has this word
pub record HasWord (nets : List Net) (number width : ℕ) (signed : Bool) : Type 0 where
  pub net : Net
  pub is : slice_get nets number ≡ Some net
  pub wide : net.width ≡ width
  pub sign : net.signed ≡ signed

-- these bits are there in the word of each of the nets
pub record HasBits (nets : List Net) (args : List ℕ) (high low : ℕ) : Type 0 where
  pub ordered : low ≤ high
  pub within : (k read : ℕ) (net : Net) → slice_get args k ≡ Some read
      → slice_get nets read ≡ Some net → high < net.width

-- the word holds every product of numbers of the words of two nets
pub record HoldsProducts (nets : List Net) (left right width : ℕ) (signed : Bool) : Type 0 where
  pub holds : (one other : Net) → slice_get nets left ≡ Some one → slice_get nets right ≡ Some other
      → (x y : ℤ) → InWord one.width one.signed x → InWord other.width other.signed y
      → InWord width signed (x *ℤ y)

-- what an operation names is there: an input, and bits of its argument's word
abbrev pub HasParts : List Net → ℕ → List ℕ → NetOp → Type 0
HasParts nets inputs args (Input number) = number < inputs
HasParts nets inputs args (Const value) = ⊤
HasParts nets inputs args Resize = ⊤
HasParts nets inputs args (ShiftUp places) = ⊤
HasParts nets inputs args (ShiftDown places) = ⊤
HasParts nets inputs args Add = ⊤
HasParts nets inputs args Subtract = ⊤
HasParts nets inputs args Negate = ⊤
HasParts nets inputs args Multiply = ⊤
HasParts nets inputs args And = ⊤
HasParts nets inputs args Or = ⊤
HasParts nets inputs args Xor = ⊤
HasParts nets inputs args Not = ⊤
HasParts nets inputs args Less = ⊤
HasParts nets inputs args Equal = ⊤
HasParts nets inputs args Choose = ⊤
HasParts nets inputs args (Slice high low) = HasBits nets args high low

-- an operation has its arguments, a frame has clocks, a bridge lives, a register has the word of
-- what it takes or adds, and a word holds every number that can come
abbrev pub IsKind : List Net → ℕ → ℕ → ℕ → Bool → NetKind → Type 0
IsKind nets cycles inputs width signed (Comb op args) =
    (length args ≡ arity op) × HasParts nets inputs args op
IsKind nets cycles inputs width signed (Reg frame slot first from) =
    (0 < frame.period) × HasWord nets from width signed × InWord width signed first
IsKind nets cycles inputs width signed (EnReg frame enable reset first from) =
    (0 < frame.period) × HasWord nets from width signed × InWord width signed first
IsKind nets cycles inputs width signed (Acc frame enable from) =
    (0 < frame.period) × HasWord nets from width signed × InWord width signed (pos 0)
IsKind nets cycles inputs width signed (Bridge frame live from) =
    (0 < frame.period) × (0 < live) × HasWord nets from width signed
IsKind nets cycles inputs width signed (Unit left right) =
    HoldsProducts nets left right width signed
IsKind nets cycles inputs width signed (Counter frame) =
    (0 < frame.period) × InWord width signed
    (pos (frame.latency * cycles + frame.period * cycles - 1))

-- the net of this number shows this input
pub record IsInput (nets : List Net) (number input : ℕ) : Type 0 where
  pub net : Net
  pub is : slice_get nets number ≡ Some net
  pub shows : net.kind ≡ Comb (Input input) []

-- no net reaches itself in one clock: each stands above those that it reads in the same clock
pub record IsRanked (nets : List Net) (rank : ℕ → ℕ) : Type 0 where
  pub falls : (k : ℕ) (net : Net) → slice_get nets k ≡ Some net
      → All (λ read. rank read < rank k) (reads_now net.kind)

pub record IsNetlist (netlist : Circuit) : Type 0 where
  pub cycles : 0 < netlist.cycles
  pub words : All (λ net. IsWord net.width net.signed) netlist.nets
  pub kinds : All
      (λ net. IsKind netlist.nets netlist.cycles
      (length netlist.inputs) net.width net.signed net.kind) netlist.nets
  pub there : All (λ net. All (λ read. read < length netlist.nets) (reads net.kind)) netlist.nets
  pub ranked : (rank : ℕ → ℕ) × IsRanked netlist.nets rank
  pub inputs : (k : ℕ) (port : NetPort) → slice_get netlist.inputs k ≡ Some port
      → IsInput netlist.nets port.net k
  pub outputs : All (λ port. port.net < length netlist.nets) netlist.outputs
