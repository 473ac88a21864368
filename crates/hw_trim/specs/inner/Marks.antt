-- Nets that are marked, and those that must be.
use Rattle.std.specs.Prelude.{◌≡◌, ℕ, ◌+◌, ◌<◌, ◌≤◌, Bool, true, false, if◌then◌else◌, List, [], ◌∷◌}
use Rattle.std.specs.Prelude.{length, All, Some, slice_get, slice_index, slice_index_or}
use Rattle.hw_net.specs.declared.netlist.Frame.{Frame}
use Rattle.hw_net.specs.declared.netlist.Net.{Net}
use Rattle.hw_net.specs.declared.netlist.NetKind.{NetKind}
use Rattle.hw_net.specs.declared.netlist.NetKind.TheVariants.{Comb, Reg, EnReg, Acc, Bridge, Unit, Counter}
use Rattle.hw_net.specs.declared.netlist.NetOp.{NetOp}
use Rattle.hw_net.specs.declared.netlist.NetOp.TheVariants.{Input, Const, Resize, ShiftUp}
use Rattle.hw_net.specs.declared.netlist.NetOp.TheVariants.{ShiftDown, Add, Subtract, Negate}
use Rattle.hw_net.specs.declared.netlist.NetOp.TheVariants.{Multiply, And, Or, Xor, Not, Less}
use Rattle.hw_net.specs.declared.netlist.NetOp.TheVariants.{Equal, Choose, Slice}
use Rattle.hw_net.specs.Circuit.{Circuit}
use Rattle.hw_net.specs.Frames.{frame_of, counter_of}
use Rattle.hw_net.specs.Netlist.{reads}

abbrev pub is_marked : List Bool → ℕ → Bool
is_marked marks k = slice_index_or marks k false

-- how many are not
abbrev pub unmarked : List Bool → ℕ
unmarked [] = 0
unmarked (mark ∷ marks) = (if mark then 0 else 1) + unmarked marks

-- the marked nets stand in the list, each once
pub record IsMarking (marks : List Bool) (order : List ℕ) : Type 0 where
  pub count : unmarked marks + length order ≡ length marks
  pub there : (i : ℕ) → i < length order → slice_index order i < length marks
  pub among : (k : ℕ) → is_marked marks k ≡ true → (i : ℕ) × (i < length order) × (slice_index order i ≡ k)

-- some nets were marked and put behind the others
pub record Marks (old new : List Bool) (before after : List ℕ) : Type 0 where
  pub size : length new ≡ length old
  pub kept : (k : ℕ) → is_marked old k ≡ true → is_marked new k ≡ true
  pub longer : length before ≤ length after
  pub same : (i : ℕ) → i < length before → slice_index after i ≡ slice_index before i
  pub marking : IsMarking new after

abbrev pub is_product : NetOp → Bool
is_product (Input number) = false
is_product (Const value) = false
is_product Resize = false
is_product (ShiftUp places) = false
is_product (ShiftDown places) = false
is_product Add = false
is_product Subtract = false
is_product Negate = false
is_product Multiply = true
is_product And = false
is_product Or = false
is_product Xor = false
is_product Not = false
is_product Less = false
is_product Equal = false
is_product Choose = false
is_product (Slice high low) = false

-- whether a net multiplies
abbrev pub multiplies : NetKind → Bool
multiplies (Comb op args) = is_product op
multiplies (Reg frame slot first from) = false
multiplies (EnReg frame enable reset first from) = false
multiplies (Acc frame enable from) = false
multiplies (Bridge frame live from) = false
multiplies (Unit left right) = true
multiplies (Counter frame) = false

-- what the net asks for is marked
pub record IsServed (nets : List Net) (marks : List Bool) (kind : NetKind) : Type 0 where
  pub reads : All (λ k. is_marked marks k ≡ true) (reads kind)
  pub counter : (frame : Frame) (j : ℕ) → frame_of kind ≡ Some frame
      → counter_of nets frame ≡ Some j → is_marked marks j ≡ true

-- what is looked at from outside is marked
pub record IsRooted (netlist : Circuit) (marks : List Bool) : Type 0 where
  pub inputs : All (λ port. is_marked marks port.net ≡ true) netlist.inputs
  pub outputs : All (λ port. is_marked marks port.net ≡ true) netlist.outputs
  pub labels : All (λ label. is_marked marks label.net ≡ true) netlist.labels
  pub products : (k : ℕ) (net : Net) → slice_get netlist.nets k ≡ Some net
      → multiplies net.kind ≡ true → is_marked marks k ≡ true

-- what marked nets ask for is marked
pub record AreServed (netlist : Circuit) (marks : List Bool) : Type 0 where
  pub each : (k : ℕ) (net : Net) → slice_get netlist.nets k ≡ Some net → is_marked marks k ≡ true
      → IsServed netlist.nets marks net.kind

pub record IsNeeded (netlist : Circuit) (marks : List Bool) : Type 0 where
  pub size : length marks ≡ length netlist.nets
  pub rooted : IsRooted netlist marks
  pub served : AreServed netlist marks
