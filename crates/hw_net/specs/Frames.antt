-- Which nets name a frame, and the Counter of a frame (own).
use Rattle.std.specs.Prelude.{◌≡◌, ℕ, ◌+◌, List, [], ◌∷◌, slice_get, Option, None, Some}
use Rattle.std.specs.Prelude.{IsSome, Bool, true, false, if◌then◌else◌}
use Rattle.hw_net.specs.declared.netlist.Frame.{Frame}
use Rattle.hw_net.specs.declared.netlist.Net.{Net}
use Rattle.hw_net.specs.declared.netlist.NetKind.{NetKind}
use Rattle.hw_net.specs.declared.netlist.NetKind.TheVariants.{Comb, Reg, EnReg, Acc, Bridge}
use Rattle.hw_net.specs.declared.netlist.NetKind.TheVariants.{Unit, Counter}
use Rattle.hw_net.specs.ByFrame.{is_same_frame}

-- the frame that a register names
abbrev pub frame_of : NetKind → Option Frame
frame_of (Comb op args) = None
frame_of (Reg frame slot first from) = Some frame
frame_of (EnReg frame enable reset first from) = Some frame
frame_of (Acc frame enable from) = Some frame
frame_of (Bridge frame live from) = Some frame
frame_of (Unit left right) = None
frame_of (Counter frame) = None

-- the frame that a Counter counts
abbrev pub counted_frame : NetKind → Option Frame
counted_frame (Comb op args) = None
counted_frame (Reg frame slot first from) = None
counted_frame (EnReg frame enable reset first from) = None
counted_frame (Acc frame enable from) = None
counted_frame (Bridge frame live from) = None
counted_frame (Unit left right) = None
counted_frame (Counter frame) = Some frame

-- whether this is the frame
abbrev pub is_frame : Frame → Option Frame → Bool
is_frame frame None = false
is_frame frame (Some own) = is_same_frame own frame

-- the number of the first Counter of a frame, the nets being numbered from `start` on
abbrev pub counter_from : List Net → ℕ → Frame → Option ℕ
counter_from [] start frame = None
counter_from (net ∷ nets) start frame =
    if is_frame frame (counted_frame net.kind) then Some start else counter_from nets
    (start + 1) frame

abbrev pub counter_of : List Net → Frame → Option ℕ
counter_of nets frame = counter_from nets 0 frame

-- the net of this number is a Counter of the frame
pub record IsCounterAt (nets : List Net) (number : ℕ) (frame : Frame) : Type 0 where
  pub net : Net
  pub is : slice_get nets number ≡ Some net
  pub counts : counted_frame net.kind ≡ Some frame

-- the net of this number is a Counter
pub record IsCounter (nets : List Net) (number : ℕ) : Type 0 where
  pub frame : Frame
  pub at : IsCounterAt nets number frame

-- there is a Counter of each frame that a register names
pub record HasCounters (nets : List Net) : Type 0 where
  pub each : (k : ℕ) (net : Net) (frame : Frame) → slice_get nets k ≡ Some net
      → frame_of net.kind ≡ Some frame → IsSome (counter_of nets frame)

-- no two Counters have one frame
pub record CountersDiffer (nets : List Net) : Type 0 where
  pub same : (i j : ℕ) (frame : Frame) → IsCounterAt nets i frame → IsCounterAt nets j frame → i ≡ j

-- whether the net holds a number from clock to clock, Counters left out
abbrev pub is_register : NetKind → Bool
is_register (Comb op args) = false
is_register (Reg frame slot first from) = true
is_register (EnReg frame enable reset first from) = true
is_register (Acc frame enable from) = true
is_register (Bridge frame live from) = true
is_register (Unit left right) = false
is_register (Counter frame) = false

-- how many nets do
abbrev pub register_count : List Net → ℕ
register_count [] = 0
register_count (net ∷ nets) = (if is_register net.kind then 1 else 0) + register_count nets
