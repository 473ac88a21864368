-- When a renumbered netlist can be run and emitted (own).
use Rattle.std.specs.Prelude.{◌≡◌, ◌≢◌, ℕ, ◌<◌, List, [], length, Contains, Some, slice_get}
use Rattle.std.specs.List.{AllPairs}
use Rattle.hw_net.specs.declared.netlist.Frame.{Frame}
use Rattle.hw_net.specs.declared.netlist.NetLabel.{NetLabel}
use Rattle.hw_net.specs.declared.netlist.NetPort.{NetPort}
use Rattle.hw_net.specs.declared.netlist.NetKind.TheVariants.{Comb}
use Rattle.hw_net.specs.declared.netlist.NetOp.TheVariants.{Input}
use Rattle.hw_net.specs.Circuit.{Circuit}
use Rattle.hw_net.specs.Emittable.{IsEmittable}
use Rattle.hw_net.specs.Frames.{counted_frame, frame_of}
use Rattle.hw_net.specs.Netlist.{IsNetlist, reads, reads_now}
use Rattle.hw_net.specs.Products.{net_at}
use Rattle.hw_renumber.specs.Renumbered.{renumbered}

-- at the place of the net stands one of its word
pub record IsStanding (netlist : Circuit) (place : ℕ → ℕ) (kept : List ℕ) (k : ℕ) : Type 0 where
  pub other : ℕ
  pub at : slice_get kept (place k) ≡ Some other
  pub wide : (net_at netlist.nets other).width ≡ (net_at netlist.nets k).width
  pub sign : (net_at netlist.nets other).signed ≡ (net_at netlist.nets k).signed

-- at the place of a net stands what shows the input of this number
pub record IsInputAt (netlist : Circuit) (place : ℕ → ℕ) (kept : List ℕ) (k input : ℕ) : Type 0 where
  pub other : ℕ
  pub at : slice_get kept (place k) ≡ Some other
  pub wide : (net_at netlist.nets other).width ≡ (net_at netlist.nets k).width
  pub sign : (net_at netlist.nets other).signed ≡ (net_at netlist.nets k).signed
  pub shows : (net_at netlist.nets other).kind ≡ Comb (Input input) []

-- a Counter of the frame is among them
pub record IsCounted (netlist : Circuit) (kept : List ℕ) (frame : Frame) : Type 0 where
  pub place : ℕ
  pub number : ℕ
  pub at : slice_get kept place ≡ Some number
  pub counts : counted_frame (net_at netlist.nets number).kind ≡ Some frame

-- the nets that stay are there; at the place of each net that is named stands one of its word, lower
-- than what reads it in its clock; labels keep nets of their own, and frames their Counters
pub record CanStay (netlist : Circuit) (place : ℕ → ℕ) (kept : List ℕ) : Type 0 where
  pub there : (i b : ℕ) → slice_get kept i ≡ Some b → b < length netlist.nets
  pub reads : (i b read : ℕ) → slice_get kept i ≡ Some b
      → Contains (reads (net_at netlist.nets b).kind) read → IsStanding netlist place kept read
  pub rank : ℕ → ℕ
  pub falls : (i b read : ℕ) → slice_get kept i ≡ Some b
      → Contains (reads_now (net_at netlist.nets b).kind) read → rank (place read) < rank i
  pub inputs : (k : ℕ) (port : NetPort) → slice_get netlist.inputs k ≡ Some port
      → IsInputAt netlist place kept port.net k
  pub outputs : (port : NetPort) → Contains netlist.outputs port
      → IsStanding netlist place kept port.net
  pub labels : (label : NetLabel) → Contains netlist.labels label
      → IsStanding netlist place kept label.net
  pub labels_differ : AllPairs (λ one other. place one.net ≢ place other.net) netlist.labels
  pub counters : (i b : ℕ) (frame : Frame) → slice_get kept i ≡ Some b
      → frame_of (net_at netlist.nets b).kind ≡ Some frame → IsCounted netlist kept frame

-- such a netlist can be run and emitted
abbrev pub RenumberedRuns : Type 0
RenumberedRuns =
    (netlist : Circuit) (place : ℕ → ℕ) (kept : List ℕ) → CanStay netlist place kept
    → IsNetlist netlist → IsNetlist (renumbered netlist place kept)

abbrev pub RenumberedEmits : Type 0
RenumberedEmits =
    (netlist : Circuit) (place : ℕ → ℕ) (kept : List ℕ) → CanStay netlist place kept
    → IsEmittable netlist → IsEmittable (renumbered netlist place kept)
