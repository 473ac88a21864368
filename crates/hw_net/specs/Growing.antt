-- Netlists that grow at their end, and what a later netlist keeps of one (own).
use Rattle.std.specs.Prelude.{◌≡◌, ℕ, ◌+◌, ◌-◌, ◌*◌, ◌<◌, ◌≤◌, ◌⊎◌, ◌++◌, ◌∷◌, List, [], length}
use Rattle.std.specs.Prelude.{All, Contains, slice_get, slice_set, None, Some, IsSome, ℤ, pos}
use Rattle.std.specs.Prelude.{◌^◌, false, max}
use Rattle.math_num.specs.Word.{IsWord, InWord}
use Rattle.hw_net.specs.declared.netlist.Frame.{Frame}
use Rattle.hw_net.specs.declared.netlist.Net.{Net}
use Rattle.hw_net.specs.declared.netlist.NetKind.TheVariants.{Comb, Reg, Counter}
use Rattle.hw_net.specs.declared.netlist.NetOp.TheVariants.{Resize}
use Rattle.hw_net.specs.Circuit.{Circuit}
use Rattle.hw_net.specs.Frames.{IsCounter, CountersDiffer, frame_of, counter_of}
use Rattle.hw_net.specs.Netlist.{IsKind, reads, reads_now}
use Rattle.hw_net.specs.NetRows.{Inputs, Rows, NetRows}

-- the second netlist is the first with nets behind its own
pub record Extends (before after : Circuit) : Type 0 where
  pub added : List Net
  pub nets : after.nets ≡ before.nets ++ added
  pub cycles : after.cycles ≡ before.cycles
  pub inputs : after.inputs ≡ before.inputs
  pub outputs : after.outputs ≡ before.outputs
  pub labels : after.labels ≡ before.labels

-- the netlist with this net behind its own
abbrev pub with_net : Circuit → Net → Circuit
with_net netlist net = record netlist { nets = netlist.nets ++ net ∷ [] }

-- a Counter of a frame in the least unsigned word that holds its numbers, where a base sample has
-- so many clocks
pub record CountsIn (cycles : ℕ) (frame : Frame) (net : Net) : Type 0 where
  pub kind : net.kind ≡ Counter frame
  pub word : IsWord net.width net.signed
  pub room : InWord net.width net.signed (pos (frame.latency * cycles + frame.period * cycles - 1))
  pub unsigned : net.signed ≡ false
  pub least : 2 ^ (net.width - 1) ≤ max 1 (frame.latency * cycles + frame.period * cycles - 1)

-- a Counter of the frame was put behind the others
pub record AddsCounter (before after : Circuit) (frame : Frame) : Type 0 where
  pub net : Net
  pub counter : CountsIn before.cycles frame net
  pub grown : after ≡ with_net before net

-- the netlist stays where it has a Counter of the frame, and else gets one
pub record IsCounted (before after : Circuit) (frame : Frame) : Type 0 where
  pub stays : IsSome (counter_of before.nets frame) → after ≡ before
  pub grows : counter_of before.nets frame ≡ None → AddsCounter before after frame

-- the net of this number is a Reg that was put behind those of the first netlist
pub record IsNewReg (before after : Circuit) (number : ℕ) : Type 0 where
  pub frame : Frame
  pub slot : ℕ
  pub first : ℤ
  pub from : ℕ
  pub net : Net
  pub is : slice_get after.nets number ≡ Some net
  pub holds : net.kind ≡ Reg frame slot first from
  pub new : length before.nets ≤ number

-- the net of this number is a Resize
pub record IsResize (nets : List Net) (number : ℕ) : Type 0 where
  pub net : Net
  pub args : List ℕ
  pub is : slice_get nets number ≡ Some net
  pub resizes : net.kind ≡ Comb Resize args

-- the Resize net of this number has this one argument
pub record IsConnected (before after : Circuit) (number argument : ℕ) : Type 0 where
  pub net : Net
  pub was : slice_get before.nets number ≡ Some net
  pub is : after
      ≡ record before {
        nets = slice_set before.nets number
            (record net { kind = Comb Resize (argument ∷ []) });
      }

-- at this number both lists have a Resize of one word, maybe of another argument
pub record IsReopened (before later : List Net) (k : ℕ) : Type 0 where
  pub was : Net
  pub is : Net
  pub old_args : List ℕ
  pub new_args : List ℕ
  pub there : slice_get before k ≡ Some was
  pub later_there : slice_get later k ≡ Some is
  pub old_kind : was.kind ≡ Comb Resize old_args
  pub new_kind : is.kind ≡ Comb Resize new_args
  pub wide : is.width ≡ was.width
  pub sign : is.signed ≡ was.signed

-- A call was given the netlist `before` and left `after`. The later netlist keeps the nets of
-- `after`, but that a Resize net of `before` may have another argument.
pub record Keeps (before after later : Circuit) : Type 0 where
  pub cycles : later.cycles ≡ after.cycles
  pub nets : (k : ℕ) → k < length after.nets
      → (slice_get later.nets k ≡ slice_get after.nets k)
      ⊎ ((k < length before.nets) × IsReopened before.nets later.nets k)

-- P holds of the rows of every later netlist that keeps what the call left
pub record InRows (before after : Circuit) (P : ℕ → Rows → Type 0) : Type 0 where
  pub holds : (later : Circuit) → Keeps before after later → (n : ℕ) (inputs : Inputs) (rows : Rows)
      → NetRows later n inputs rows → P n rows

-- What a call appends may read this net, if the call names it, it was appended too, or it is a
-- Counter.
abbrev pub MayRead : Circuit → Circuit → List ℕ → ℕ → Type 0
MayRead before after named read =
    Contains named read ⊎ (length before.nets ≤ read) ⊎ IsCounter after.nets read

-- In its own clock the appended net k may read it, if the call names it, it was appended before, or
-- it is a Counter.
abbrev pub MayReadNow : Circuit → Circuit → List ℕ → ℕ → ℕ → Type 0
MayReadNow before after named k read =
    Contains named read ⊎ ((length before.nets ≤ read) × (read < k)) ⊎ IsCounter after.nets read

-- an appended net as a netlist that can be run needs it, and the Counter of the frame that it names
pub record IsAppended (before after : Circuit) (named : List ℕ) (k : ℕ) (net : Net) : Type 0 where
  pub word : IsWord net.width net.signed
  pub kind : IsKind after.nets after.cycles (length after.inputs) net.width net.signed net.kind
  pub there : All (λ read. read < length after.nets) (reads net.kind)
  pub allowed : All (MayRead before after named) (reads net.kind)
  pub now : All (MayReadNow before after named k) (reads_now net.kind)
  pub counted : (frame : Frame) → frame_of net.kind ≡ Some frame
      → IsSome (counter_of after.nets frame)

-- A call that names some nets puts nets behind the others: they are sound, read in their clock
-- nothing that stands behind them, and no frame gets a second Counter.
pub record Appends (before after : Circuit) (named : List ℕ) : Type 0 where
  pub extends : Extends before after
  pub each : (k : ℕ) (net : Net) → length before.nets ≤ k → slice_get after.nets k ≡ Some net
      → IsAppended before after named k net
  pub differ : CountersDiffer before.nets → CountersDiffer after.nets
